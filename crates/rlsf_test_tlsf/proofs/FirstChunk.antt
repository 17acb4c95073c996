-- An allocator's first chunk, and ranges that are appended behind it.
use Rattle.std.proofs.Common.{◌≡◌, ℕ, ◌+◌, ◌*◌, ◌/◌, ◌%◌, ◌<◌, [], ◌∷◌, Option, arith, inl, inr, refl, sym, ◌∙◌, ap, subst}
use mathlib.Core.Path.{ap₂}
use Rattle.rlsf_base.specs.declared.memory.range.Range.{Range}
use Rattle.rlsf_base.specs.Range.{end_of, LiesIn, range_at}
use Rattle.rlsf_model_sizes.specs.Sizes.{max_pool_size}
use Rattle.rlsf_base.proofs.Numbers.Roundings.{round32-le}
use Rattle.rlsf_model.specs.ChunkRows.{IsRow}
use Rattle.rlsf_model.specs.Insert.{aligned_part, appended, cut, extended, with_chunks, Appends, Inserts, IsNext}
use Rattle.rlsf_model.specs.Lists.{IsIn}
use Rattle.rlsf_model.specs.State.{State, empty}
use Rattle.rlsf_model.specs.WellFormed.{coverage, itself}
use Rattle.rlsf_tlsf.specs.Allocator.{Allocator, Steps}
use Rattle.rlsf_tlsf.proofs.Arrivals.{opened}
use Rattle.rlsf_model.proofs.Coverage.{covers-behind}
use Rattle.rlsf_model.proofs.Chunks.{used-inserted}
use Rattle.rlsf_model.proofs.Cuts.{chunks_are_cut_off_the_front, max_pool-cases}

-- a complete range that is one chunk, inserted first
pub chunks-inserted : (fllen : ℕ) (r : Range) (reply : Option ℕ) (t : State) → r.start % 32 ≡ 0 → r.len % 32 ≡ 0 → cut (max_pool_size fllen) r ≡ r ∷ []
    → Inserts fllen empty r reply t → t.chunks ≡ r ∷ []
chunks-inserted fllen r reply t start len one step =
    let part : aligned_part r ≡ r = ap₂ range_at (omega arith) (omega arith) in
    ap (λ x. x.chunks) (step.after ∙ ap (λ p. with_chunks (cut (max_pool_size fllen) p) empty) part ∙ ap (λ cs. with_chunks cs empty) one)

-- as above, for an allocator in the empty state
pub chunks-first : (fllen sllen : ℕ) (before after : Allocator) (r : Range) → before.state ≡ empty → r.start % 32 ≡ 0 → r.len % 32 ≡ 0
    → cut (max_pool_size fllen) r ≡ r ∷ []
    → Steps fllen sllen before after (λ t. (taken : Option ℕ) × Inserts fllen before.state r taken t) → after.state.chunks ≡ r ∷ []
chunks-first fllen sllen before after r new start len one step =
    let (taken, inserts) = (opened fllen sllen before after (λ t. (taken : Option ℕ) × Inserts fllen before.state r taken t) step).0 in
    chunks-inserted fllen r taken after.state start len one (subst (λ s. Inserts fllen s r taken after.state) new inserts)

-- a range behind the one chunk may be appended
pub IsNext-behind : (memory : Range) (s : State) (c r : Range) → s.chunks ≡ c ∷ [] → end_of c ≡ r.start → LiesIn r memory.start memory.len → IsNext memory s r
IsNext-behind memory s c r one ends lies_in = record {
  fresh = record { lies_in = lies_in; apart = λ a low high. ap (λ cs. coverage itself cs a) one ∙ ap (λ n. n + 0) (covers-behind c a (omega arith)) };
  chunk = c;
  is_chunk = subst (λ cs. IsIn c cs) (sym one) (inl refl);
  ends = ends;
}

-- fewer than 32 bytes change nothing
pub Appends-few : (fllen : ℕ) (s : State) (r : Range) (reply : ℕ) (t : State) → 0 < fllen → r.len < 32 → Appends fllen s r reply t → t ≡ s
Appends-few fllen s r reply t rows few step =
    let order = round32-le r.start in
    let part = aligned_part r in
    let none_left : cut (max_pool_size fllen) part ≡ [] = (chunks_are_cut_off_the_front fllen part.start part.len rows).0 (omega arith) in
    let none_more : r.len / 32 * 32 ≡ 0 = omega arith in
    elim (max_pool-cases fllen) [
      | inl some ↦ step.after ∙ ap (λ o. appended o r s) some ∙ ap (λ o. with_chunks (cut o part) s) (sym some) ∙ ap (λ cs. with_chunks cs s) none_left
      | inr (none, large) ↦ step.after ∙ ap (λ o. appended o r s) none ∙ ap (λ n. extended r.start n s) none_more
    ]

-- an allocator that was in the empty state has no payload once a range was inserted
pub used-first : (fllen sllen : ℕ) (before after : Allocator) (r : Range) → before.state ≡ empty
    → Steps fllen sllen before after (λ t. (taken : Option ℕ) × Inserts fllen before.state r taken t) → after.state.used ≡ []
used-first fllen sllen before after r new step =
    let (taken, inserts) = (opened fllen sllen before after (λ t. (taken : Option ℕ) × Inserts fllen before.state r taken t) step).0 in
    used-inserted fllen before.state after.state r taken inserts ∙ ap (λ (s : State). s.used) new

-- the one chunk is contiguous
pub IsRow-one : (s : State) (c : Range) → s.chunks ≡ c ∷ [] → IsRow s c
IsRow-one s c one a from to = (c, subst (λ cs. IsIn c cs) (sym one) (inl refl), omega arith, from, to, omega arith)
