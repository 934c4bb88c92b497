-- The standard output of the system.
use Rattle.std.specs.Prelude.{ℕ, Option}
use Rattle.rr_io.specs.declared.write_fault.WriteFault.{WriteFault}

-- how many puts have failed, and why the last of them did
pub record Faults : Type 0 where
  pub faults : ℕ
  pub why : Option WriteFault
