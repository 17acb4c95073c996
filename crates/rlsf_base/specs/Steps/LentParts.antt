-- What the owner of a block's bytes ends as, once a `&mut` into them has ended.
use Rattle.std.specs.Prelude.{ℕ, List}
use Rattle.std.specs.Borrow.{Fml, MutBor, Array, Lends, u8}
use Rattle.rlsf_base.specs.declared.memory.block.Bytes.{Bytes}
use Rattle.rlsf_base.specs.contracts.memory.block.Bytes as owner
use Rattle.rlsf_base.specs.Lends.{refilled}

-- the owner, with these bytes
abbrev pub owner_with : Bytes → List ℕ → Bytes
owner_with b bs = record { mark = b.mark; at = b.at; skip = b.skip; bytes = bs; out = b.out; of = b.of; units = b.units }

-- the owner ends with what r leaves in its len bytes from the index i on
abbrev pub lends_part : MutBor Bytes → ℕ → ℕ → MutBor (List ℕ) → Fml
lends_part b i len r = Lends owner.the_row (Array u8 0) b r (λ w. owner_with b.now (refilled b.now.bytes i len w))
