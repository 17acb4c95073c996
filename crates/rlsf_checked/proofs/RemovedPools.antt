-- What is true of a checked allocator's fields once a pool was removed.
use Rattle.std.proofs.Common.{◌≡◌, ◌⊎◌, ℕ, ◌<◌, ◌≤◌, ◌==◌, filter, not, true≢false, arith, refl, sym, ◌∙◌, ap, subst, inl, inr}
use Rattle.std.proofs.lemmas.Bool.{cases_lt, cond_both, eq-eqb, eqb-false, eqb-true}
use Rattle.rlsf_base.specs.declared.memory.range.Range.{Range}
use Rattle.rlsf_base.specs.Range.{end_of}
use Rattle.rlsf_model_sizes.specs.Rounding.{round32}
use Rattle.rlsf_base.specs.Space.{SamePlace}
use Rattle.rlsf_base.proofs.Numbers.Roundings.{round32-le, round32-lt, round32-multiple}
use Rattle.rlsf_blocks.specs.Blocks.{walked}
use Rattle.rlsf_model.specs.Callers.{align_at}
use Rattle.rlsf_model.specs.ChunkRows.{IsRow}
use Rattle.rlsf_model.specs.Lists.{IsIn}
use Rattle.rlsf_model.specs.Remove.{Removes, outside_of}
use Rattle.rlsf_model.specs.State.{State}
use Rattle.rlsf_model.specs.WellFormed.{IsWellFormed}
use Rattle.rlsf_model.proofs.Coverage.{by_test, IsIn-filter, IsIn-filter_from}
use Rattle.rlsf_model.proofs.Removals.{IsIn-outside, IsIn-outside_from, lies_within-le}
use Rattle.rlsf_tlsf.specs.Allocator.{Allocator, Stands}
use Rattle.rlsf_checked.specs.Checked.{PoolList, pools_of}
use Rattle.rlsf_checked.specs.Pools.{without_last, without_pool_at}
use Rattle.rlsf_codes.specs.declared.codes.Codes.{Codes}
use Rattle.rlsf_checked.specs.Steps.Standing.{AreCheckedPools, IsChecked, IsOneOf, IsCheckedPool}
use Rattle.rlsf_checked.proofs.ListedPools.{AreInOrder-filter, same_or_apart}
use Rattle.rlsf_checked.proofs.PoolsOverSteps.{renewed}

-- contiguous chunks before a range or behind it are left
left_row : (s t : State) (r p : Range) → Removes s r t → IsRow s p → (end_of p ≤ r.start) ⊎ (end_of r ≤ p.start) → IsRow t p
left_row s t r p removes row off a begins ends =
    let (c, i, from, low, high, to) = row a begins ends in
    let stays : IsIn c (outside_of r s.chunks) = elim (IsIn-outside_from r c s.chunks i) [
      | inr stays ↦ stays
      | inl (c_from, c_to) ↦ elim off [
        | inl before ↦ absurd (omega (arith, before, c_from, low, ends))
        | inr behind ↦ absurd (omega (arith, behind, c_to, high, begins))
      ]
    ] in
    (c, subst (λ (x : State). IsIn c x.chunks) (sym removes) stays, from, low, high, to)

module _ {fllen sllen : ℕ} {memory : Range} {s t : State} {pools : PoolList} (w : IsWellFormed fllen sllen memory s) (are : AreCheckedPools s pools) where
  -- so is a pool
  left_pool : (r p : Range) → Removes s (walked r) t → round32 r.start < end_of r → IsOneOf p pools → (end_of p ≤ r.start) ⊎ (end_of r ≤ p.start) → IsCheckedPool t p
  left_pool r p removes some one off =
      let is = are.each p one in
      let apart : (end_of (walked p) ≤ (walked r).start) ⊎ (end_of (walked r) ≤ (walked p).start) = elim off [
        | inl before ↦ inl (omega (arith, before, is.room, round32-le r.start))
        | inr behind ↦ inr (omega (arith, behind, some, round32-le p.start))
      ] in
      record { room = is.room; row = left_row s t (walked r) (walked p) removes is.row apart }

  -- a chunk that is left was there, and doesn't lie in the range
  left_chunk : (r c : Range) → Removes s (walked r) t → IsIn c t.chunks → IsIn c s.chunks × (r.start ≤ c.start → end_of c ≤ end_of r → ⊥)
  left_chunk r c removes i =
      let (j, out) = IsIn-outside (walked r) c s.chunks (subst (λ (x : State). IsIn c x.chunks) removes i) in (
        j,
        λ low to.
            let chunk = w.chunks c j in
            let from : round32 r.start ≤ c.start = omega (arith, low, chunk.whole.start, round32-lt r.start, round32-multiple r.start) in
            true≢false (sym (lies_within-le (walked r) c from (omega (arith, from, to, chunk.has_room))) ∙ out),
      )

  -- the last pool is empty
  pub removed_last : Removes s (walked pools.last) t → AreCheckedPools t (without_last pools)
  removed_last removes = record {
    each = λ p one. elim one [
      | inl i ↦
          let is = are.each p (inl i) in
          let off : end_of (walked p) ≤ (walked pools.last).start = omega (arith, is.room, are.behind p i, round32-le pools.last.start) in
          record { room = is.room; row = left_row s t (walked pools.last) (walked p) removes is.row (inl off) }
      | inr (same, some) ↦ absurd (omega (arith, some, ap (λ (x : Range). x.len) same))
    ];
    order = are.order;
    behind = are.behind;
    homes = λ c i.
        let (j, out) = left_chunk pools.last c removes i in
        let (p, one, from, to) = are.homes c j in
        elim one [
          | inl k ↦ (p, inl k, from, to)
          | inr (same, some) ↦ absurd (out (omega (arith, from, ap (λ (x : Range). x.start) same)) (omega (arith, to, ap end_of same)))
        ];
  }

  -- another pool is gone
  removed_earlier : (r : Range) → IsIn r pools.earlier → Removes s (walked r) t
      → AreCheckedPools t (pools_of (filter (λ p. not (p.start == r.start)) pools.earlier) pools.last)
  removed_earlier r held removes = record {
    each = λ p one. elim one [
      | inl i ↦
          let (j, other) = was p i in
          elim (same_or_apart pools.earlier are.order p r j held) [
            | inl same ↦ absurd (other (ap (λ (x : Range). x.start) same))
            | inr off ↦ left_pool r p removes some (inl j) off
          ]
      | inr last ↦ left_pool r p removes some (inr last) (inr (omega (arith, are.behind r held, ap (λ (x : Range). x.start) last.0)))
    ];
    order = AreInOrder-filter (λ p. not (p.start == r.start)) pools.earlier are.order;
    behind = λ p i. are.behind p (was p i).0;
    homes = λ c i.
        let (j, out) = left_chunk r c removes i in
        let (p, one, from, to) = are.homes c j in
        elim one [
          | inr last ↦ (p, inr last, from, to)
          | inl k ↦ elim (same_or_apart pools.earlier are.order p r k held) [
            | inl same ↦ absurd (out (omega (arith, from, ap (λ (x : Range). x.start) same)) (omega (arith, to, ap end_of same)))
            | inr off ↦ (p, inl (stays p k off), from, to)
          ]
        ];
  }
    where
      some : round32 r.start < end_of r
      some = (are.each r (inl held)).room

      was : (p : Range) → IsIn p (filter (λ q. not (q.start == r.start)) pools.earlier) → IsIn p pools.earlier × (p.start ≡ r.start → ⊥)
      was p i =
          let (j, passes) = IsIn-filter (λ q. not (q.start == r.start)) p pools.earlier i in
          (j, λ same. true≢false (sym passes ∙ ap not (eq-eqb p.start r.start same)))

      stays : (p : Range) → IsIn p pools.earlier → (end_of p ≤ r.start) ⊎ (end_of r ≤ p.start) → IsIn p (filter (λ q. not (q.start == r.start)) pools.earlier)
      stays p i off =
          IsIn-filter_from (λ q. not (q.start == r.start)) p pools.earlier i (by_test (p.start == r.start)
          (λ e. elim off [
            | inl before ↦ absurd (omega (arith, before, (are.each p (inl i)).room, round32-le p.start, eqb-true p.start r.start e))
            | inr behind ↦ absurd (omega (arith, behind, some, round32-le r.start, eqb-true p.start r.start e))
          ])
          (λ e. ap not e))

  -- a pool is gone
  pub removed_pools : (r : Range) → IsOneOf r pools → Removes s (walked r) t → AreCheckedPools t (without_pool_at pools r.start)
  removed_pools r one removes = cond_both (pools.last.start == r.start) _ _ (AreCheckedPools t)
      (λ e. elim one [
        | inl i ↦ absurd (omega (arith, are.behind r i, (are.each r (inl i)).room, round32-le r.start, eqb-true pools.last.start r.start e))
        | inr last ↦ removed_last (subst (λ x. Removes s (walked x) t) last.0 removes)
      ])
      (λ e. elim one [
        | inl i ↦ removed_earlier r i removes
        | inr last ↦ absurd (eqb-false pools.last.start r.start e (sym (ap (λ (x : Range). x.start) last.0)))
      ])

-- the fields of an allocator, of which a pool was removed
pub removed_pool : {fllen sllen : ℕ} {v w : Allocator} {m : Codes ℕ} {pools : PoolList} (is : IsChecked fllen sllen v m pools) → Stands fllen sllen w
    → SamePlace v.memory w.memory → align_at w.state ≡ align_at v.state → (r : Range) → IsOneOf r pools → Removes v.state (walked r) w.state
    → IsChecked fllen sllen w m (without_pool_at pools r.start)
unfolding Stands
removed_pool {w = w} {pools = pools} is stands place aligns r one removes =
    let same : (without_pool_at pools r.start).last.start ≡ pools.last.start =
    cond_both (pools.last.start == r.start) (without_last pools) (pools_of (filter (λ p. not (p.start == r.start)) pools.earlier) pools.last)
    (λ (x : PoolList). x.last.start ≡ pools.last.start) (λ e. refl) (λ e. refl) in
    let short : end_of (without_pool_at pools r.start).last ≤ end_of pools.last =
    cond_both (pools.last.start == r.start) (without_last pools) (pools_of (filter (λ p. not (p.start == r.start)) pools.earlier) pools.last)
    (λ (x : PoolList). end_of x.last ≤ end_of pools.last) (λ e. omega arith) (λ e. omega arith) in
    renewed is w stands place aligns (without_pool_at pools r.start) (removed_pools is.stands.well_formed is.pools r one removes) (omega (arith, is.low, same))
    (omega (arith, is.high, short))

-- or the last one
pub removed_last_pool : {fllen sllen : ℕ} {v w : Allocator} {m : Codes ℕ} {pools : PoolList} (is : IsChecked fllen sllen v m pools) → Stands fllen sllen w
    → SamePlace v.memory w.memory → align_at w.state ≡ align_at v.state → Removes v.state (walked pools.last) w.state
    → IsChecked fllen sllen w m (without_last pools)
unfolding Stands
removed_last_pool {w = w} {pools = pools} is stands place aligns removes =
    renewed is w stands place aligns (without_last pools) (removed_last is.stands.well_formed is.pools removes) is.low (omega (arith, is.high))

-- the part of the last pool that is iterated over is contiguous chunks, or empty
pub last_row : {s : State} {pools : PoolList} → AreCheckedPools s pools → IsRow s (walked pools.last)
last_row {pools = pools} are = grind (arith, cases_lt, round32-le)
