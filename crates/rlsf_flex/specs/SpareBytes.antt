-- What the allocator over a source leaves of the bytes that no block is made of.
use Rattle.std.specs.Prelude.{◌≡◌, ◌≢◌, ℕ, ◌+◌, ◌<◌, ◌≤◌, true, List, ◌∷◌, length}
use Rattle.rlsf_base.specs.declared.memory.range.Range.{Range}
use Rattle.rlsf_base.specs.Space.{Space, byte_at}
use Rattle.rlsf_blocks.specs.Spare.{IsSpare}
use Rattle.rlsf_flex.specs.Footers.{footer_of}
use Rattle.rlsf_model.specs.FlexState.{FlexState}
use Rattle.rlsf_model.specs.Terms.{Terms}

-- a source takes ranges back, the newest range came or grew, and the address lies in its footer
pub record IsInNewFooter (t : Terms) (before after : List Range) (a : ℕ) : Type 0 where
  pub takes_back : t.dealloc ≡ true
  pub came : after ≢ before
  pub newest : Range
  pub rest : List Range
  pub split : after ≡ newest ∷ rest
  pub from : footer_of newest ≤ a
  pub to : a < footer_of newest + 16

-- Each byte of the memory that no block is made of, before and after, is as it was. The one exception is the newest range's footer, if
-- memory came and the source takes ranges back.
abbrev pub KeepsSpareButFooter : Terms → Space → FlexState → Space → FlexState → Type 0
KeepsSpareButFooter t m s n u = (a : ℕ) → m.start ≤ a → a < m.start + length m.bytes → IsSpare s.machine a → IsSpare u.machine a
    → (IsInNewFooter t s.pools u.pools a → ⊥) → byte_at n a ≡ byte_at m a
