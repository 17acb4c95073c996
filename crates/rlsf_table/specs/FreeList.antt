-- The list of free blocks, as its words are in a memory.
use Rattle.std.specs.Prelude.{◌≡◌, ℕ, ◌+◌, List, [], ◌∷◌}
use Rattle.rlsf_base.specs.declared.memory.range.Range.{Range}
use Rattle.rlsf_base.specs.Space.{Space, word_at}

-- free blocks of a class from `head` on are linked as a list has them: each names the next one at +16 and the one
-- before it at +24, which is `previous` for the first
abbrev pub Links : Space → ℕ → List Range → ℕ → Type 0
Links m previous [] head = head ≡ 0
Links m previous (f ∷ fs) head = (head ≡ f.start) × (word_at m (f.start + 24) ≡ previous) × Links m f.start fs (word_at m (f.start + 16))
