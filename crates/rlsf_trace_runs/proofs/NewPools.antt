-- The pool that an insert makes has the chunks that it makes.
use Rattle.std.proofs.Common.{◌≡◌, ℕ, ◌+◌, ◌-◌, ◌<◌, ◌≤◌, List, [], ◌∷◌, Option, Some, arith, refl, inl, inr, sym, ◌∙◌, ap, subst}
use Rattle.rlsf_base.specs.declared.memory.range.Range.{Range}
use Rattle.rlsf_base.specs.Range.{end_of}
use Rattle.rlsf_model_sizes.specs.Rounding.{round32}
use Rattle.rlsf_base.proofs.Numbers.Roundings.{round32-le}
use Rattle.rlsf_model_sizes.specs.Sizes.{max_pool_size}
use Rattle.rlsf_model.specs.Insert.{aligned_part, bytes_taken, cut, end_of_last, Inserts, with_chunks}
use Rattle.rlsf_model.specs.Lists.{IsIn}
use Rattle.rlsf_model.specs.State.{State}
use Rattle.rlsf_model.specs.WellFormed.{covers, coverage, itself, IsWellFormed}
use Rattle.rlsf_model.proofs.Coverage.{inside, before, behind, covers-inside, coverage-IsIn, where_is}
use Rattle.rlsf_model.proofs.Cuts.{coverage-cut, coverage-cut_last}
use Rattle.rlsf_model.proofs.Insertions.{IsWhole-aligned_part}
use Rattle.rlsf_model.proofs.Untouched.{coverage-with_chunks}
use Rattle.rlsf_model.proofs.Names.{with_chunk}
use Rattle.rlsf_trace_runs.specs.Runs.{with_new_pool}

-- a chunk that was there is there still
pub IsIn-with_chunks_old : (cs : List Range) (s : State) (c : Range) → IsIn c s.chunks → IsIn c (with_chunks cs s).chunks
IsIn-with_chunks_old [] s c i = i
IsIn-with_chunks_old (d ∷ cs) s c i = IsIn-with_chunks_old cs (with_chunk d s) c (inr i)

-- and so is each new one
pub IsIn-with_chunks : (cs : List Range) (s : State) (c : Range) → IsIn c cs → IsIn c (with_chunks cs s).chunks
IsIn-with_chunks [] s c i = absurd i
IsIn-with_chunks (d ∷ cs) s c (inl is) = IsIn-with_chunks_old cs (with_chunk d s) c (inl is)
IsIn-with_chunks (d ∷ cs) s c (inr i) = IsIn-with_chunks cs (with_chunk d s) c i

-- the last of some chunks
pub last_of : (c : Range) (cs : List Range) → (d : Range) × IsIn d (c ∷ cs) × (end_of_last (end_of c) cs ≡ end_of d)
last_of c [] = (c, inl refl, refl)
last_of c (d ∷ cs) = let (e, i, is) = last_of d cs in (e, inr i, is)

-- a pool by the chunks that are made of its range
covered_by : (r : Range) (cs : List Range) (reply : Option ℕ) → reply ≡ bytes_taken r.start cs → (pools : List Range) (a : ℕ)
    → coverage itself cs a ≤ covers (record { start = round32 r.start; len = end_of_last (round32 r.start) cs - round32 r.start }) a
    → coverage itself cs a + coverage itself pools a ≤ coverage itself (with_new_pool r reply pools) a
covered_by r [] reply is pools a within = subst (λ o. 0 + coverage itself pools a ≤ coverage itself (with_new_pool r o pools) a) (sym is) (omega arith)
covered_by r (c ∷ cs) reply is pools a within =
    let end = end_of_last (end_of c) cs in
    let up = round32 r.start in
    let same : end - up ≡ r.start + (end - r.start) - up = omega (arith, round32-le r.start) in
    subst (λ o. coverage itself (c ∷ cs) a + coverage itself pools a ≤ coverage itself (with_new_pool r o pools) a) (sym is)
    (subst (λ n. coverage itself (c ∷ cs) a + coverage itself pools a ≤ covers (record { start = up; len = n }) a + coverage itself pools a) same (omega (arith, within)))

-- all chunks of the state after an insert are in pools, if those before it were
pub coverage-with_pool : (fllen : ℕ) (s : State) (r : Range) (reply : Option ℕ) (t : State) → Inserts fllen s r reply t → (pools : List Range) (a : ℕ)
    → coverage itself s.chunks a ≤ coverage itself pools a → coverage itself t.chunks a ≤ coverage itself (with_new_pool r reply pools) a
coverage-with_pool fllen s r reply t step pools a old =
    let cs = cut (max_pool_size fllen) (aligned_part r) in
    let new : coverage itself t.chunks a ≡ coverage itself cs a + coverage itself s.chunks a = ap (λ u. coverage itself u.chunks a) step.after ∙ coverage-with_chunks cs s a in
    omega (arith, new, old, covered_by r cs reply step.answer pools a (coverage-cut_last (max_pool_size fllen) (aligned_part r) a))

-- where a pool ends, by the chunks that are made of its range
pub bounds_of_chunks : (r : Range) (cs : List Range) (len : ℕ) → Some len ≡ bytes_taken r.start cs → ((d : Range) → IsIn d cs → 64 ≤ d.len)
    → ((a : ℕ) → coverage itself cs a ≤ covers (aligned_part r) a) → (round32 r.start < r.start + len) × (r.start + len ≤ end_of r)
bounds_of_chunks r [] len is room within = absurd (cc)
bounds_of_chunks r (c ∷ cs) len is room within =
    let (d, i, end) = last_of c cs in
    let count : len ≡ end_of_last (end_of c) cs - r.start = cc in
    let some = room d i in
    let a = end_of d - 1 in
    let one : covers d a ≡ 1 = covers-inside d a (omega arith) (omega arith) in
    let here : 1 ≤ covers (aligned_part r) a = omega (arith, within a, coverage-IsIn itself d (c ∷ cs) a i) in
    elim (where_is (aligned_part r) a) [
      | inside _ low high ↦ (omega (arith, count, end, round32-le r.start), omega (arith, count, end, round32-le r.start))
      | before none _ ↦ absurd (omega arith)
      | behind none _ ↦ absurd (omega arith)
    ]

-- a pool has a byte, and its end is that of its range
pub pool_bounds : {sllen : ℕ} {memory : Range} (fllen : ℕ) (s : State) (r : Range) (len : ℕ) (t : State) → Inserts fllen s r (Some len) t
    → IsWellFormed fllen sllen memory t
    → (round32 r.start < r.start + len) × (r.start + len ≤ end_of r)
pool_bounds fllen s r len t step w =
    let cs = cut (max_pool_size fllen) (aligned_part r) in
    bounds_of_chunks r cs len step.answer
    (λ d i. (w.chunks d (subst (λ u. IsIn d u.chunks) (sym step.after) (IsIn-with_chunks cs s d i))).has_room)
    (coverage-cut (aligned_part r) (IsWhole-aligned_part r) (max_pool_size fllen))
