-- A payload gets another size without moving, or can't.
use Rattle.std.proofs.Common.{◌≡◌, ◌-◌, ◌+◌, ◌<◌, ◌^◌, ℕ, Bool, false, None, length, arith, ap, subst}
use Rattle.rlsf_base.specs.Layout.{IsLayout}
use Rattle.rlsf_base.specs.OpenSpace.{IsOwned}
use Rattle.rlsf_base.specs.Space.{Space}
use Rattle.rlsf_base.proofs.Lending.Present.{owned-same}
use Rattle.rlsf_model.specs.NoMove.{ReallocatesWithoutMove, unmoved_plan}
use Rattle.rlsf_model.specs.Reallocate.{HasRoomToStay}
use Rattle.rlsf_model.specs.State.{Holds, State, Used, usable}
use Rattle.rlsf_model.specs.WellFormed.{IsUsed}
use Rattle.rlsf_model.proofs.Changes.{Holds-unique}
use Rattle.rlsf_model.proofs.Payloads.{block_length-le, IsUsed-after_start}
use Rattle.rlsf_table.specs.Counts.{Counts}
use Rattle.rlsf_table.specs.Table.{Table}
use Rattle.rlsf_blocks.specs.Laws.{read_from}
use Rattle.rlsf_blocks.specs.StandsFor.{contents, StandsFor}
use Rattle.rlsf_blocks.specs.Steps.Resize.{IsOwnedBehind}
use Rattle.rlsf_blocks.proofs.Counting.{Counts-counted_first}
use Rattle.rlsf_blocks.proofs.Reallocate.FirstPlan.{StandsFor-unchanged}
use Rattle.rlsf_blocks.proofs.Words.Apart.{used_in_memory}
use Rattle.rlsf_tlsf.specs.CoreResizes.{IsOwnBehind, KeepsCore, stayed_if}
use Rattle.rlsf_tlsf.proofs.Reached.{read_from-counted}
use Rattle.rlsf_tlsf.proofs.UnknownAlign.{denied_by, no_room_to_stay}

-- the bytes behind its end are usable ones
own_behind : (m : Space) (u : Used) (size : ℕ) → IsUsed u → IsOwned m (usable u) → IsOwnedBehind m u size
own_behind m u size is own a lo hi = grind (arith, block_length-le, IsUsed-after_start)

-- the payload at the address can't get the size in place, and no more than so many words were accessed
pub record IsDenied (fllen sllen : ℕ) (m n : Space) (t : Table) (s : State) (addr size most : ℕ) : Type 0 where
  pub plan : (u : Used) → Holds s addr u → unmoved_plan s u size ≡ None
  pub room : HasRoomToStay s addr size → ⊥
  pub counts : Counts m n most
  pub stands : StandsFor fllen sllen (contents n t) s

-- the words that name its block were read
module _ {fllen sllen : ℕ} {m n : Space} {x : Table} (j : State) {some : ℕ} (v : StandsFor fllen sllen (contents m x) (read_from m j)) (counts : Counts m n some) {addr : ℕ}
    (size : ℕ) where
  -- so it can get another size
  module _ (u : Used) (holds : Holds (read_from m j) addr u) {block : ℕ} (start : block ≡ u.block.start) where
    pub own_found : IsOwned m (usable u) → IsOwnBehind n (read_from n j) addr block size
    own_found own = grind (arith, read_from-counted, own_behind, owned-same)

    pub fits_found : {align : ℕ} → IsLayout size align → length n.bytes < 2 ^ 59 → addr - block + size + 31 < 2 ^ 64
    fits_found valid below =
        omega (arith, below, ap length counts.bytes, holds.1, start, (v.well_formed.used u holds.0).within, used_in_memory v.well_formed u holds.0, valid.fits)

  -- and then it couldn't
  module _ {o : Space} {y : Table} {k : State} {more : ℕ} {stays : Bool} (no : stays ≡ false)
      (step : ReallocatesWithoutMove (read_from n j) addr size (stayed_if stays addr) (read_from o k)) (kept : KeepsCore n o x y j k more) where
    pub denied_after : IsDenied fllen sllen m o y (read_from m j) addr size (some + more)
    denied_after =
        let denied : ReallocatesWithoutMove (read_from m j) addr size None (read_from o k) =
        subst (λ (x : State × Bool). ReallocatesWithoutMove x.0 addr size (stayed_if x.1 addr) (read_from o k)) (λ i. (read_from-counted counts j i, no i)) step in
        let all = Counts-counted_first m n o some more counts kept.counts in
        record {
          plan = λ u holds.
              subst (λ (z : Used). unmoved_plan (read_from m j) z size ≡ None) (Holds-unique v.well_formed addr denied.block u denied.holds holds)
              (denied_by v.well_formed denied).0;
          room = no_room_to_stay v.well_formed denied;
          counts = all;
          stands = StandsFor-unchanged m o x y (read_from m j) (some + more) (all, kept.table) v;
        }
