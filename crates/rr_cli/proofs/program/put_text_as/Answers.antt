use Rattle.std.proofs.Common.{inl, inr, refl}
use Rattle.rr_cli.proofs.program.put_text_as.Goals as goal

pub returns-in-Ok : goal.returns-in-Ok
returns-in-Ok g c = inl (refl, c.in-Ok.ensures.put.0, c.in-Ok.ensures.put.1)

pub returns-in-Err-Failed : goal.returns-in-Err-Failed
returns-in-Err-Failed g c = let put = rw c.in-Err-Failed.field-0-is at c.in-Err-Failed.ensures.put in inr (inl (refl, put.0, put.1))

pub returns-in-Err-NoMemory : goal.returns-in-Err-NoMemory
returns-in-Err-NoMemory g c = let put = rw c.in-Err-NoMemory.field-0-is at c.in-Err-NoMemory.ensures.put in inr (inr (refl, put.0, put.1))
