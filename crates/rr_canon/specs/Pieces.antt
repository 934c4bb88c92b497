-- The text of a descriptor that is written piece by piece.
use Rattle.std.specs.Prelude.{ℕ, List}
use Rattle.rr_canon.specs.Least.{least_sketch}
use Rattle.rr_canon.specs.Versions.{text_in}
use Rattle.rr_canon.specs.declared.descriptor.Descriptor.{Descriptor}

-- the canonical text, in its version, of the least sketch that is kept
abbrev pub descriptor_bytes : Descriptor → List ℕ
descriptor_bytes d = text_in d.version (least_sketch d.least)
