use Rattle.rr_model.specs.Series.Occurrences.{Occurs}
use Rattle.rr_model.specs.Sets.DescriptorText.{descriptor_text}
use Rattle.rr_canon.specs.Versions.{text_in}
use Rattle.rr_canon.specs.declared.version.Version.TheVariants.{Second}
use Rattle.rr_canon.proofs.PrintableLemmas.{descriptor_text_tells, texts_are_equal_exactly}
use Rattle.rr_canon.proofs.StretchTextLemmas.{second_version_tells}
use Rattle.rr_canon.proofs.laws.canon_is_equal_exactly.Goals as goal

pub returns-clause-first : goal.returns-clause-first
returns-clause-first c = λ s u. texts_are_equal_exactly descriptor_text descriptor_text_tells (Occurs s) (Occurs u)

pub returns-clause-second : goal.returns-clause-second
returns-clause-second c = λ s u. texts_are_equal_exactly (text_in Second) second_version_tells (Occurs s) (Occurs u)
