-- Bytes that lie in a block, for the owner of payloads who reads and writes them where they lie.
use Rattle.std.specs.Prelude.{ℕ, ◌+◌, List}
use Rattle.std.specs.Borrow.{Fml}
use base.Fml.{ffalse}
use types.SemTy.{cells}
use denote.Builtin.{u8}
use denote.Memory.{mem}
use denote.RawPtr.{Ptr, block_ptr, null_ptr}

-- bytes with these values, from a place of the block at p on
abbrev pub bytes_from : Ptr → ℕ → List ℕ → Fml
bytes_from (block_ptr b o) place ws = cells (mem u8) ws b (place + o)
bytes_from null_ptr place ws = ffalse
