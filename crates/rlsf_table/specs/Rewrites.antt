-- What a step of the free lists may write, and what it leaves as it was.
use Rattle.std.specs.Prelude.{◌≡◌, ℕ, ◌+◌, ◌%◌, ◌<◌, ◌≤◌, ◌⊎◌, List, [], length}
use Rattle.rlsf_base.specs.declared.memory.range.Range.{Range}
use Rattle.rlsf_base.specs.OpenSpace.{IsOwned, SameOwn, StaysHere}
use Rattle.rlsf_base.specs.Range.{end_of, LiesIn}
use Rattle.rlsf_base.specs.Space.{Space, bytes_in, out_at, word_at}
use Rattle.rlsf_model.specs.Lists.{IsIn}

-- a range that can be a block: not at the address 0, at a multiple of 32, 32 bytes or more, and inside the memory
pub record CanBeBlock (m : Space) (f : Range) : Type 0 where
  pub some : 0 < f.start
  pub whole : f.start % 32 ≡ 0
  pub room : 32 ≤ f.len
  pub lies_in : LiesIn f m.start (length m.bytes)
  pub own : IsOwned m f

-- the address is that of a link: the third or the fourth word of one of the blocks
abbrev pub IsLink : List Range → ℕ → Type 0
IsLink free a = (f : Range) × IsIn f free × ((a ≡ f.start + 16) ⊎ (a ≡ f.start + 24))

-- no words were written but at addresses of one kind, and the memory stays where it is
pub record Rewrites (m n : Space) (at : ℕ → Type 0) : Type 0 where
  pub start : n.start ≡ m.start
  pub length : length n.bytes ≡ length m.bytes
  pub none : m.out ≡ [] → n.out ≡ []
  pub own : SameOwn m n
  pub here : StaysHere m n
  pub kept : (a : ℕ) → m.start ≤ a → ((b : ℕ) → at b → (a < b) ⊎ (b + 8 ≤ a)) → out_at n a ≡ out_at m a
  pub words : (a : ℕ) → a % 8 ≡ 0 → m.start ≤ a → ¬ at a → word_at n a ≡ word_at m a
  pub bytes : (r : Range) → m.start ≤ r.start → ((a : ℕ) → at a → (end_of r ≤ a) ⊎ (a + 8 ≤ r.start)) → bytes_in n r ≡ bytes_in m r
