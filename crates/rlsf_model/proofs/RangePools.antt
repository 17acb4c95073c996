-- The pools of ranges over the steps.
use Rattle.std.proofs.Common.{◌≡◌, ℕ, ◌+◌, ◌-◌, ◌<◌, ◌≤◌, List, Option, Some, arith, sym, subst, inl, inr}
use Rattle.std.proofs.lemmas.Bool.{cases_lt}
use Rattle.rlsf_base.specs.declared.memory.range.Range.{Range}
use Rattle.rlsf_base.specs.Range.{end_of}
use Rattle.rlsf_model_sizes.specs.Rounding.{round32}
use Rattle.rlsf_base.proofs.Numbers.Roundings.{round32-le, round32-least}
use Rattle.rlsf_model.specs.FlexState.{KeptPool}
use Rattle.rlsf_model.specs.FlexWellFormed.{IsKeptPool, IsPool}
use Rattle.rlsf_model.specs.Insert.{Inserts, IsClear}
use Rattle.rlsf_model.specs.Lists.{IsIn}
use Rattle.rlsf_model.specs.State.{State, between}
use Rattle.rlsf_model.specs.Terms.{Terms}
use Rattle.rlsf_model.specs.WellFormed.{IsWellFormed}
use Rattle.rlsf_model.proofs.ChunkRows.{IsRow-inserted, IsRow-kept, IsRow-same}
use Rattle.rlsf_model.proofs.Chunks.{inserted_chunks_lie_in_range}
use Rattle.rlsf_model.proofs.RangesInChunks.{coverage-in, coverage-none}
use Rattle.rlsf_model.proofs.TakenPools.{IsTaken, longer as wider, new, old}

-- with the same chunks, the pool is the same
pub IsPool-same : (s t : State) (p : Range) (len : ℕ) → t.chunks ≡ s.chunks → IsPool s p len → IsPool t p len
IsPool-same s t p len same is = record {
  some = is.some;
  within = is.within;
  nearly = is.nearly;
  row = IsRow-same s t (between (round32 p.start) (p.start + len)) same is.row;
  unused = subst (IsClear (between (p.start + len) (end_of p))) (sym same) is.unused;
}

-- the last chunk of a pool
pub IsPool-last : (s : State) (p : Range) (len : ℕ) → IsPool s p len → (c : Range) × IsIn c s.chunks × (p.start ≤ c.start) × (end_of c ≡ p.start + len)
IsPool-last s p len is = grind (arith, round32-le)

-- no chunk ends in the range behind its pool
pub IsPool-no_later : (s : State) (p c : Range) (len : ℕ) → IsPool s p len → IsIn c s.chunks → 0 < c.len → end_of c ≤ end_of p → end_of c ≤ p.start + len
IsPool-no_later s p c len is i some to = elim (cases_lt (p.start + len) (end_of c)) [
  | inl later ↦
      let a = end_of c - 1 in
      let within = is.within in
      absurd (omega (arith, is.unused a (omega arith) (omega arith), coverage-in c s.chunks a i (omega arith) (omega arith)))
  | inr fits ↦ fits
]

-- the kept pool reaches as far as its range's
pub IsPool-kept : (t : Terms) (k : KeptPool) (s : State) (pools : List Range) (len : ℕ) → ((c : Range) → IsIn c s.chunks → 64 ≤ c.len) → IsKeptPool t k pools s.chunks
    → IsPool s k.range len → len ≡ k.len
IsPool-kept t k s pools len room kept is =
    let (c, i, from, ends) = IsPool-last s k.range len is in
    let (d, j, d_ends) = kept.last in
    let some = is.some in
    let begins = round32-le k.range.start in
    let within = is.within in
    let kept_within = kept.within in
    elim (cases_lt len k.len) [
      | inl short ↦ absurd (behind_pool d j short d_ends)
      | inr long ↦ elim (cases_lt k.len len) [
        | inl more ↦
            let a = end_of c - 1 in
            absurd (omega (arith, kept.unused a (omega arith) (omega arith), coverage-in c s.chunks a i (omega arith) (omega arith)))
        | inr same ↦ omega arith
      ]
    ]
  where
    behind_pool : (d : Range) → IsIn d s.chunks → len < k.len → end_of d ≡ k.range.start + k.len → ⊥
    behind_pool d j short ends =
        let a = end_of d - 1 in
        let long = room d j in
        let kept_within = kept.within in
        omega (arith, is.unused a (omega arith) (omega arith), coverage-in d s.chunks a j (omega arith) (omega arith))

-- an insert makes a pool of its range
pub IsPool-inserted : {sllen : ℕ} {memory : Range} (fllen : ℕ) (s t : State) (r : Range) (len : ℕ) → 64 ≤ r.len → IsClear r s.chunks
    → IsWellFormed fllen sllen memory t → IsTaken s r len t → Inserts fllen s r (Some len) t → IsPool t r len
IsPool-inserted fllen s t r len long clear w taken step =
    let within = taken.within in
    let (c, i, ends) = taken.last in
    let chunk = w.chunks c i in
    let room = chunk.has_room in
    record {
      some = elim (inserted_chunks_lie_in_range fllen s t r (Some len) c step i) [
        | inl before ↦
            let a = r.start + len - 1 in
            absurd (omega (
              arith,
              taken.nearly,
              clear a (omega (arith, taken.nearly)) (omega (arith, taken.nearly)),
              coverage-in c s.chunks a before (omega arith) (omega (arith, taken.nearly)),
            ))
        | inr (from, to) ↦ omega (arith, round32-least r.start c.start chunk.whole.start from)
      ];
      within = within;
      nearly = taken.nearly;
      row = IsRow-inserted fllen s t r len step;
      unused = λ a low high. coverage-none t.chunks a (λ d j d_low d_high. elim (taken.origin d j) [
        | old h ↦ omega (arith, coverage-in d s.chunks a h d_low d_high, clear a (omega arith) (omega arith))
        | new starts d_ends ↦ omega arith
        | wider b h starts b_ends d_ends ↦ omega arith
      ]);
    }

-- and leaves those of the others
pub IsPool-inserted_other : (fllen : ℕ) (s t : State) (r p : Range) (len : ℕ) (reply : Option ℕ) (pools : List Range) → IsIn p pools → IsClear r pools
    → Inserts fllen s r reply t → IsPool s p len → IsPool t p len
IsPool-inserted_other fllen s t r p len reply pools i apart step is = record {
  some = is.some;
  within = is.within;
  nearly = is.nearly;
  row = IsRow-kept fllen s t r (between (round32 p.start) (p.start + len)) reply step is.row;
  unused = λ a low high. coverage-none t.chunks a (λ d j d_low d_high. elim (inserted_chunks_lie_in_range fllen s t r reply d step j) [
    | inl h ↦ omega (arith, coverage-in d s.chunks a h d_low d_high, is.unused a low high)
    | inr (from, to) ↦ omega (arith, apart a (omega arith) (omega arith), coverage-in p pools a i (omega arith) (omega (arith, is.within)))
  ]);
}
