-- Each payload's address has a code: it is a multiple of 16 in the memory, whose addresses the table's are.
use Rattle.std.proofs.Common.{◌≡◌, ℕ, ◌+◌, ◌%◌, ◌≤◌, Some, arith, length, ap, subst, ◌∙◌, sym}
use Rattle.rlsf_base.specs.Space.{SamePlace, Space, range_of}
use Rattle.rlsf_flex.specs.StandsFor.{FlexContents, FlexStandsFor}
use Rattle.rlsf_codes.specs.Codes.{CodeSpace, HasCode, codes_for}
use Rattle.rlsf_global.specs.LiveRows.{LiveRows}
use Rattle.rlsf_global.specs.Locked.{IsListed, IsLocked, IsSpaceOf}
use Rattle.rlsf_model.proofs.CallerWords.{align_at-live}
use Rattle.rlsf_model.proofs.Live.{payload_lies_in_one_chunk}
use Rattle.rlsf_model.proofs.Payloads.{IsUsed-after_start, IsUsed-even}
use Rattle.rlsf_model.specs.Callers.{align_at}
use Rattle.rlsf_model_global.specs.Cursor.{PageCursor, terms_of}
use Rattle.rlsf_model_global.specs.Pages.{MayOwe}

-- ---- the table's addresses

-- they stay those of the memory, which stays where it is
pub space_stays : (m m' : Space) (s : CodeSpace ℕ) → IsSpaceOf m s → SamePlace m m' → IsSpaceOf m' s
space_stays m m' s was place = was ∙ ap (λ n. codes_for n (length m.bytes) 0) (sym place.0) ∙ ap (λ n. codes_for m'.start n 0) (sym place.1)

pub listed : (f f' : FlexContents PageCursor) (t t' : LiveRows) → IsSpaceOf f.memory t.space → SamePlace f.memory f'.memory → t'.space ≡ t.space
    → IsLocked f' t'.rows → IsListed f' t'
listed f f' t t' was place same locked = record { locked = locked; space = same ∙ space_stays f.memory f'.memory t.space was place }

-- ---- where payloads live

module _ (f : FlexContents PageCursor) (stands : FlexStandsFor 64 64 terms_of MayOwe f) (s : CodeSpace ℕ) (space : IsSpaceOf f.memory s) where
  pub has_code : (a align : ℕ) → align_at f.state.machine a ≡ Some align → HasCode s a
  has_code a align live =
      let m = f.state.machine in
      let well = stands.well_formed.machine in
      let (u, (iu, at_a), alike) = align_at-live m a align live in
      let used = well.used u iu in
      let (c, ic, from, to, _) = payload_lies_in_one_chunk 64 64 (range_of f.memory) m u well iu in
      let (low, high) = (well.chunks c ic).lies_in in
      let within = used.within in
      let behind = IsUsed-after_start u used in
      let below : f.memory.start ≤ u.payload = omega (arith, low, from) in
      let above : u.payload ≤ f.memory.start + length f.memory.bytes = omega arith in
      let whole : u.payload % 16 ≡ 0 = IsUsed-even u used in
      subst (λ s. HasCode s a) (sym space) (subst (HasCode (codes_for f.memory.start (length f.memory.bytes) 0)) at_a (record {
        whole = whole;
        above = omega (arith, below);
        below = omega (arith, below, above);
      }))
