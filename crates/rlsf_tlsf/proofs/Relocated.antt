-- A payload that got another size: what callers see of it, and where its bytes lie.
use Rattle.std.proofs.Common.{◌≡◌, ℕ, ◌+◌, ◌%◌, Some, length, arith, sym, ◌∙◌, ap, subst}
use Rattle.rlsf_base.specs.declared.memory.range.Range.{Range}
use Rattle.rlsf_base.specs.OpenSpace.{IsHere, IsOwned, SameOwn}
use Rattle.rlsf_base.specs.Range.{end_of, range_at}
use Rattle.rlsf_model_sizes.specs.Rounding.{round32}
use Rattle.rlsf_base.specs.Space.{Space, range_of}
use Rattle.rlsf_base.proofs.Lending.Present.{own-here}
use Rattle.rlsf_model.specs.Callers.{bytes_at}
use Rattle.rlsf_model.specs.Reallocate.{Reallocates}
use Rattle.rlsf_model.specs.State.{Holds, State, Used, usable}
use Rattle.rlsf_model.proofs.CallerWords.{bytes_at-held, resized_seen}
use Rattle.rlsf_model.proofs.Live.{live_addresses_are_aligned}
use Rattle.rlsf_table.specs.Table.{Table}
use Rattle.rlsf_blocks.specs.StandsFor.{contents, StandsFor}
use Rattle.rlsf_blocks.proofs.Words.Apart.{used_in_memory}
use Rattle.rlsf_tlsf.specs.Moving.{IsRelocated, span}
use Rattle.rlsf_tlsf.proofs.NewSize.{align_new, holds_new, new, own_new}
use Rattle.rlsf_tlsf.proofs.Placed.{lies_used}

-- its end is the first multiple of 32 that its size reaches
pub end_relocated : {n : Space} {s t : State} {addr size align to : ℕ} → IsRelocated n s t addr size align to → round32 (to + size) ≡ to + length (bytes_at t to)
end_relocated is = omega (arith, is.made.sized, is.made.few, is.ends)

-- the bytes of a payload are as many as its block has for it
module _ {fllen sllen : ℕ} {m : Space} {table : Table} {s : State} (v : StandsFor fllen sllen (contents m table) s) (addr : ℕ) (u : Used) (holds : Holds s addr u) where
  pub span_held : usable u ≡ span s addr addr
  span_held =
      let long : (usable u).len ≡ length (bytes_at s addr) = sym (ap length (bytes_at-held v.well_formed addr u holds) ∙ (v.well_formed.used u holds.0).bytes) in
      λ i. range_at (holds.1 i) (long i)

  -- and end at a multiple of 32
  pub ends_held : (addr + length (bytes_at s addr)) % 32 ≡ 0
  ends_held =
      let of = v.well_formed.used u holds.0 in
      omega (arith, ap (λ (r : Range). r.len) span_held, of.within, of.whole.start, of.whole.len, holds.1)

module _ {fllen sllen : ℕ} {m n : Space} {table changed : Table} {s t : State} {addr size align to : ℕ} (v : StandsFor fllen sllen (contents m table) s) (u : Used)
    (holds : Holds s addr u) (wide : u.align ≡ align) (step : Reallocates sllen s addr size (Some to) t) (now : StandsFor fllen sllen (contents n changed) t) where
  at_block : Reallocates sllen s u.payload size (Some to) t
  at_block = subst (λ a. Reallocates sllen s a size (Some to) t) (sym holds.1) step

  fresh : Used
  fresh = new v u holds.0 size to at_block

  fresh_in : Holds t to fresh
  unfolding fresh
  fresh_in = holds_new v u holds.0 size to at_block

  fresh_wide : fresh.align ≡ align
  unfolding fresh
  fresh_wide = align_new v u holds.0 size to at_block ∙ wide

  is_span : usable fresh ≡ span t to to
  is_span = span_held now to fresh fresh_in

  pub IsRelocated-at : n.start ≡ m.start → SameOwn m n → IsHere m (usable u) → IsHere n (range_at to (usable u).len) → IsRelocated n s t addr size align to
  unfolding fresh
  IsRelocated-at start own here still =
      let seen = resized_seen v.well_formed t addr size align to (u, holds, wide) step in
      let of = now.well_formed.used fresh fresh_in.0 in
      let long : (usable fresh).len ≡ length (bytes_at t to) = ap (λ (r : Range). r.len) is_span in
      let ending : to + length (bytes_at t to) ≡ end_of fresh.block = omega (arith, long, of.within, fresh_in.1) in record {
        made = record { live = seen.live; sized = seen.sized; few = seen.few; kept = seen.kept; new = seen.new; aligns = seen.aligns; bytes = seen.bytes };
        some = omega (arith, now.nonzero, (lies_used now fresh fresh_in.0).0, fresh_in.1);
        aligned = live_addresses_are_aligned fllen sllen (range_of n) t to align now.well_formed (fresh, fresh_in, fresh_wide);
        lies = (omega (arith, (lies_used now fresh fresh_in.0).0, fresh_in.1), omega (arith, ending, (used_in_memory now.well_formed fresh fresh_in.0).1));
        ends = ends_held now to fresh fresh_in;
        own = subst (IsOwned n) is_span (own_new v u holds.0 size to at_block (own-here m (usable u) here) now start own);
        here = subst (λ (r : Range). IsHere n (range_at to r.len)) (span_held v addr u holds) still;
      }
