-- A payload has another size: its block, the other blocks, and its bytes, which are the memory's own.
use Rattle.std.proofs.Common.{◌≡◌, ◌≢◌, ℕ, ◌≤◌, ◌<◌, Some, arith, refl, sym, subst, ◌∙◌, ap}
use Rattle.rlsf_base.specs.OpenSpace.{IsOwned, SameOwn}
use Rattle.rlsf_base.specs.Range.{end_of}
use Rattle.rlsf_base.specs.Space.{Space, range_of}
use Rattle.rlsf_base.proofs.Lending.Present.{own-there}
use Rattle.rlsf_model.specs.Lists.{IsIn}
use Rattle.rlsf_model.specs.Reallocate.{Reallocates}
use Rattle.rlsf_model.specs.Release.{released}
use Rattle.rlsf_model.specs.Run.{reallocate}
use Rattle.rlsf_model.specs.State.{State, Used, Holds, IsLive, usable}
use Rattle.rlsf_model.proofs.Changes.{IsIn-others}
use Rattle.rlsf_model.proofs.Chunks.{chunks-reallocated}
use Rattle.rlsf_model.proofs.Live.{other_payloads_stay, reallocated_is_live}
use Rattle.rlsf_model.proofs.Payloads.{IsUsed-after_start}
use Rattle.rlsf_model.proofs.Releases.{IsWellFormed-released}
use Rattle.rlsf_table.specs.Table.{Table}
use Rattle.rlsf_blocks.specs.StandsFor.{contents, StandsFor}
use Rattle.rlsf_blocks.proofs.Words.Apart.{Has, home_of_used, used_in_memory, used_used}
use Rattle.rlsf_blocks.proofs.Words.NeverOut.{here_apart-in, here_released}

module _ {fllen sllen : ℕ} {m : Space} {table : Table} {s : State} (v : StandsFor fllen sllen (contents m table) s) (u : Used) (i : IsIn u s.used) (size to : ℕ) {t : State}
    (step : Reallocates sllen s u.payload size (Some to) t) where
  live : IsLive t to u.align × ((other : ℕ) → IsLive s to other → to ≡ u.payload)
  live = reallocated_is_live fllen sllen (range_of m) s t u.payload size to u.align v.well_formed (u, (i, refl), refl) step

  -- the payload with the size
  pub new : Used
  new = live.0.0

  pub holds_new : Holds t to new
  unfolding new live
  holds_new = live.0.1

  pub align_new : new.align ≡ u.align
  unfolding new live
  align_new = live.0.2

  -- no other payload was at its address
  pub other_place : (y : Used) → IsIn y s.used → y.payload ≡ to → y.payload ≡ u.payload
  other_place y j at = at ∙ live.1 y.align (y, (j, at), refl)

  pub stays : (y : Used) → IsIn y s.used → y.payload ≢ u.payload → IsIn y t.used
  stays y j apart = other_payloads_stay fllen sllen s t (reallocate u.payload size (Some to)) y step j (λ same. apart (sym same))

  -- its bytes are the memory's own, where those of the old payload were
  module _ (own : IsOwned m (usable u)) {n : Space} {x : Table} (w : StandsFor fllen sllen (contents n x) t) (start : n.start ≡ m.start) (same : SameOwn m n) where
    from : m.start ≤ new.payload
    from = omega (arith, start, (used_in_memory w.well_formed new holds_new.0).0, IsUsed-after_start new (w.well_formed.used new holds_new.0))

    apart_from : (y : Used) → IsIn y (released s u).used → (a : ℕ) → y.payload ≤ a → a < end_of y.block → Has (usable new) a → ⊥
    apart_from y k a low high has =
        let (j, other) = IsIn-others u.payload y s.used k in
        let there = stays y j other in
        let same_block = used_used w.well_formed y new a there holds_new.0
        (record { from = omega (arith, low, IsUsed-after_start y (v.well_formed.used y j)); to = high })
        (record {
          from = omega (arith, has.from, IsUsed-after_start new (w.well_formed.used new holds_new.0));
          to = omega (arith, has.to, has.from, (w.well_formed.used new holds_new.0).within);
        }) in
        other (other_place y j (ap (λ (z : Used). z.payload) same_block ∙ holds_new.1))

    pub own_new : IsOwned n (usable new)
    own_new =
        let home = home_of_used w.well_formed new holds_new.0 in
        let after = IsUsed-after_start new (w.well_formed.used new holds_new.0) in
        let within = (w.well_formed.used new holds_new.0).within in
        let is_chunk = subst (IsIn home.chunk) (chunks-reallocated sllen s t u.payload size (Some to) step) home.is_chunk in
        own-there m n (usable new) from same
        (here_apart-in m (IsWellFormed-released v.well_formed u i) (here_released v u i own) (usable new) from home.chunk is_chunk (omega (arith, home.from, after))
        (omega (arith, home.to, within, after)) apart_from)
