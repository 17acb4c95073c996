-- Ranges that overlap no chunk.
use Rattle.std.proofs.Common.{◌≡◌, ℕ, ◌+◌, List, [], ◌∷◌, Option, arith, refl, ◌∙◌, ap, inl, inr}
use Rattle.std.proofs.lemmas.Bool.{cases_lt}
use Rattle.rlsf_base.specs.declared.memory.range.Range.{Range}
use Rattle.rlsf_base.proofs.Numbers.Roundings.{round32-le}
use Rattle.rlsf_base.specs.Range.{AreApart, LiesIn}
use Rattle.rlsf_model_sizes.specs.Sizes.{max_pool_size}
use Rattle.rlsf_model.specs.Insert.{Inserts, IsFresh, IsUntouched, aligned_part, cut, with_chunks}
use Rattle.rlsf_model.specs.State.{State, empty}
use Rattle.rlsf_model.specs.WellFormed.{covers, coverage, itself}
use Rattle.rlsf_model.proofs.Coverage.{covers-before, covers-behind, covers-inside}
use Rattle.rlsf_model.proofs.Cuts.{coverage-cut}
use Rattle.rlsf_model.proofs.Insertions.{IsWhole-aligned_part}
use Rattle.rlsf_model.proofs.Names.{with_chunk}

-- without chunks every range is untouched
pub untouched_empty : (r : Range) → IsUntouched empty.chunks r
unfolding IsUntouched
untouched_empty r a from to = refl

-- a range in the memory that overlaps no chunk may be inserted
pub IsFresh-untouched : (memory : Range) (s : State) (r : Range) → LiesIn r memory.start memory.len → IsUntouched s.chunks r → IsFresh memory s r
unfolding IsUntouched
IsFresh-untouched memory s r lies clear = record { lies_in = lies; apart = clear }

-- and one that may be inserted lies in the memory and overlaps no chunk
pub parts_of-IsFresh : (memory : Range) (s : State) (r : Range) → IsFresh memory s r → LiesIn r memory.start memory.len × IsUntouched s.chunks r
unfolding IsUntouched
parts_of-IsFresh memory s r fresh = (fresh.lies_in, fresh.apart)

pub coverage-with_chunks : (cs : List Range) (s : State) (a : ℕ) → coverage itself (with_chunks cs s).chunks a ≡ coverage itself cs a + coverage itself s.chunks a
coverage-with_chunks [] s a = omega arith
coverage-with_chunks (c ∷ cs) s a = omega (arith, coverage-with_chunks cs (with_chunk c s) a)

-- an aligned part has no address that its range doesn't have
covers-aligned : (r : Range) (a : ℕ) → covers r a ≡ 0 → covers (aligned_part r) a ≡ 0
covers-aligned r a none = grind (arith, cases_lt, covers-before, covers-behind, covers-inside, round32-le)

-- a range that an insert's doesn't overlap stays untouched
pub untouched_inserted : (fllen : ℕ) (s t : State) (r : Range) (reply : Option ℕ) → Inserts fllen s r reply t → (q : Range) → IsUntouched s.chunks q → AreApart r q
    → IsUntouched t.chunks q
unfolding IsUntouched
untouched_inserted fllen s t r reply step q clear apart a from to =
    let cs = cut (max_pool_size fllen) (aligned_part r) in
    let off : covers r a ≡ 0 = elim apart [
      | inl before ↦ covers-behind r a (omega arith)
      | inr behind ↦ covers-before r a (omega arith)
    ] in
    let part : covers (aligned_part r) a ≡ 0 = covers-aligned r a off in
    let new : coverage itself t.chunks a ≡ coverage itself cs a + coverage itself s.chunks a = ap (λ u. coverage itself u.chunks a) step.after ∙ coverage-with_chunks cs s a in
    omega (arith, new, clear a from to, part, coverage-cut (aligned_part r) (IsWhole-aligned_part r) (max_pool_size fllen) a)
