-- Outstanding ranges, and the chunks that they house.
use Rattle.std.proofs.Common.{◌≡◌, ℕ, ◌<◌, ◌≤◌, List, ◌∷◌, Option, arith, refl, ap, inl, inr}
use Rattle.std.proofs.lemmas.Bool.{cases_lt}
use Rattle.rlsf_base.specs.declared.memory.range.Range.{Range}
use Rattle.rlsf_base.specs.Range.{end_of, LiesIn}
use Rattle.rlsf_model.specs.FlexWellFormed.{AreHoused, AreOutstanding, IsHoused}
use Rattle.rlsf_model.specs.Insert.{Inserts, IsClear}
use Rattle.rlsf_model.specs.Lists.{IsIn}
use Rattle.rlsf_model.specs.State.{State}
use Rattle.rlsf_model.specs.Terms.{with_len}
use Rattle.rlsf_model.specs.WellFormed.{coverage, itself}
use Rattle.rlsf_model.proofs.Chunks.{inserted_chunks_lie_in_range}
use Rattle.rlsf_model.proofs.Coverage.{coverage-IsIn, coverage-some, covers-inside, where_is}

-- an address of a list's range is in the list
pub coverage-in : (r : Range) (rs : List Range) (a : ℕ) → IsIn r rs → r.start ≤ a → a < end_of r → 1 ≤ coverage itself rs a
coverage-in r rs a i low high = omega (arith, covers-inside r a low high, coverage-IsIn itself r rs a i)

-- an address that no range of a list has
pub coverage-none : (rs : List Range) (a : ℕ) → ((r : Range) → IsIn r rs → r.start ≤ a → a < end_of r → ⊥) → coverage itself rs a ≡ 0
coverage-none rs a none = grind (arith, cases_lt, coverage-some)

-- ---- outstanding ranges

-- one more range that is outstanding
pub AreOutstanding-more : (space r : Range) (pools : List Range) → AreOutstanding space pools → LiesIn r space.start space.len → IsClear r pools → 64 ≤ r.len
    → AreOutstanding space (r ∷ pools)
AreOutstanding-more space r pools are lies clear long = grind (arith, where_is)

-- one range less
pub AreOutstanding-rest : (space r : Range) (pools : List Range) → AreOutstanding space (r ∷ pools) → AreOutstanding space pools
AreOutstanding-rest space r pools are = grind arith

-- ---- chunks

-- what is apart from the ranges is apart from the chunks
pub IsClear-housed : (r : Range) (pools chunks : List Range) → AreHoused pools chunks → IsClear r pools → IsClear r chunks
IsClear-housed r pools chunks housed clear a low high = coverage-none chunks a (λ c i from to.
    let (p, j, starts, ends) = housed c i in
    omega (arith, coverage-in p pools a j (omega arith) (omega arith), clear a low high))

-- one more range houses what the others did
IsHoused-more : (r c : Range) (pools : List Range) → IsHoused pools c → IsHoused (r ∷ pools) c
IsHoused-more r c pools (p, i, from, to) = (p, inr i, from, to)

-- a range that is inserted houses what it becomes
pub AreHoused-inserted : (fllen : ℕ) (s t : State) (r : Range) (reply : Option ℕ) (pools : List Range) → AreHoused pools s.chunks → Inserts fllen s r reply t
    → AreHoused (r ∷ pools) t.chunks
AreHoused-inserted fllen s t r reply pools housed step c i = elim (inserted_chunks_lie_in_range fllen s t r reply c step i) [
  | inl old ↦ IsHoused-more r c pools (housed c old)
  | inr new ↦ (r, inl refl, new.0, new.1)
]

-- a longer range houses what the range did
pub AreHoused-longer : (r : Range) (len : ℕ) (rest chunks : List Range) → r.len ≤ len → AreHoused (r ∷ rest) chunks → AreHoused (with_len r len ∷ rest) chunks
AreHoused-longer r len rest chunks more housed c i =
    let (p, j, from, to) = housed c i in
    elim j [
      | inl same ↦
          let start : p.start ≡ r.start = ap (λ q. q.start) {x = p} same in
          let end : end_of p ≡ end_of r = ap end_of {x = p} same in
          (with_len r len, inl refl, omega arith, omega arith)
      | inr k ↦ (p, inr k, from, to)
    ]
