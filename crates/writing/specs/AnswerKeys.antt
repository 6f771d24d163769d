-- The code of an answer's key, in the key table of the crate text.
-- Assumes nothing.
use Rattle.std.specs.Prelude.{ℕ}
use Rattle.writing.specs.declared.inner.Key.{Key}
use Rattle.writing.specs.declared.inner.Key.TheVariants.{Payload, Id, Lease, Answer, Revision, Count}

abbrev pub code_of : Key → ℕ
code_of Payload = 4
code_of Id = 5
code_of Lease = 6
code_of Answer = 7
code_of Revision = 8
code_of Count = 9
