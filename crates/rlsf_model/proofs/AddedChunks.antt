-- The chunks that an aligned part with room for a pool becomes.
use Rattle.std.proofs.Common.{◌≡◌, ℕ, ◌+◌, ◌-◌, ◌%◌, ◌<◌, ◌≤◌, List, [], ◌∷◌, Option, Some, arith, refl, sym, ap, subst, inl, inr}
use Rattle.rlsf_base.specs.declared.memory.range.Range.{Range}
use Rattle.rlsf_base.specs.Range.{end_of, range_at}
use Rattle.rlsf_model_sizes.specs.Sizes.{max_pool_size}
use Rattle.rlsf_model.specs.Insert.{body, bytes_taken, cut, end_of_last, with_chunks}
use Rattle.rlsf_model.specs.Laws.{first_length}
use Rattle.rlsf_model.specs.Lists.{IsIn}
use Rattle.rlsf_model.specs.State.{State}
use Rattle.rlsf_model.specs.WellFormed.{itself}
use Rattle.rlsf_model.proofs.Chunks.{IsIn-with_chunks_old}
use Rattle.rlsf_model.proofs.Coverage.{covers-inside, covers-some, coverage-IsIn}
use Rattle.rlsf_model.proofs.Cuts.{IsIn-cut_within, chunks_are_cut_off_the_front, coverage-cut_last, end_of_last-cut}
use Rattle.rlsf_model.proofs.Names.{with_chunk}

-- ---- the last chunk

pub IsIn-end_of_last : (c : Range) (cs : List Range) → (d : Range) × IsIn d (c ∷ cs) × (end_of d ≡ end_of_last (end_of c) cs)
IsIn-end_of_last c [] = (c, inl refl, refl)
IsIn-end_of_last c (d ∷ ds) = let (x, is_in, ends) = IsIn-end_of_last d ds in (x, inr is_in, ends)

-- no chunk of a part ends behind the last one
end_of-cut : (fllen : ℕ) (part c : Range) → IsIn c (cut (max_pool_size fllen) part) → end_of c ≤ end_of_last part.start (cut (max_pool_size fllen) part)
end_of-cut fllen part c i =
    let cs = cut (max_pool_size fllen) part in
    let (from, to, some) = IsIn-cut_within fllen part c i in
    let a = end_of c - 1 in
    let one = covers-inside c a (omega arith) (omega arith) in
    let last = range_at part.start (end_of_last part.start cs - part.start) in
    let (low, high) = covers-some last a (omega (arith, coverage-IsIn itself c cs a i, coverage-cut_last (max_pool_size fllen) part a)) in
    omega arith

-- ---- the chunks

-- chunks of a part, of which one has e bytes or more, up to the end of the last one
pub record AreCutFrom (e : ℕ) (part : Range) (end : ℕ) (cs : List Range) : Type 0 where
  pub wide : (c : Range) × IsIn c cs × (e ≤ c.len)
  pub last : (c : Range) × IsIn c cs × (end_of c ≡ end)
  pub told : (start : ℕ) → bytes_taken start cs ≡ Some (end - start)
  pub from : (c : Range) → IsIn c cs → part.start ≤ c.start
  pub to : (c : Range) → IsIn c cs → end_of c ≤ end
  pub within : end ≤ end_of part
  pub nearly : end_of part ≤ end + 32

first_length-long : (o : Option ℕ) (e len : ℕ) → ((p : ℕ) → o ≡ Some p → e ≤ p) → e ≤ len → e ≤ first_length o len
first_length-long o e len short long = grind arith

pub AreCutFrom-cut : (fllen e : ℕ) (part : Range) → 0 < fllen → 64 ≤ e → ((p : ℕ) → max_pool_size fllen ≡ Some p → e ≤ p) → part.len % 32 ≡ 0
    → e ≤ part.len
    → AreCutFrom e part (end_of_last part.start (cut (max_pool_size fllen) part)) (cut (max_pool_size fllen) part)
AreCutFrom-cut fllen e part rows room short whole long =
    let o = max_pool_size fllen in
    let cs = cut o part in
    let n = first_length o part.len in
    let c = range_at part.start n in
    let more = cut o (range_at (part.start + n) (part.len - n)) in
    let is : cs ≡ c ∷ more = (chunks_are_cut_off_the_front fllen part.start part.len rows).1 (omega arith) in
    let end = λ (l : List Range). end_of_last part.start l in
    let near = end_of_last-cut fllen part rows whole in
    record {
      wide = (c, subst (IsIn c) (sym is) (inl refl), first_length-long o e part.len short long);
      last = subst (λ l. (d : Range) × IsIn d l × (end_of d ≡ end l)) (sym is) (IsIn-end_of_last c more);
      told = λ start. subst (λ l. bytes_taken start l ≡ Some (end l - start)) (sym is) refl;
      from = λ d i. (IsIn-cut_within fllen part d i).0;
      to = end_of-cut fllen part;
      within = near.0;
      nearly = near.1;
    }

-- ---- the state that has them

pub IsIn-with_chunks_new : (c : Range) (cs : List Range) (s : State) → IsIn c cs → IsIn c (with_chunks cs s).chunks × IsIn (body c) (with_chunks cs s).free
IsIn-with_chunks_new c [] s i = absurd i
IsIn-with_chunks_new c (d ∷ cs) s (inl same) = (IsIn-with_chunks_old c cs (with_chunk d s) (inl same), free_old (body c) cs (with_chunk d s) (inl (ap body same)))
  where
    free_old : (f : Range) (ds : List Range) (r : State) → IsIn f r.free → IsIn f (with_chunks ds r).free
    free_old f [] r i = i
    free_old f (x ∷ xs) r i = free_old f xs (with_chunk x r) (inr i)
IsIn-with_chunks_new c (d ∷ cs) s (inr i) = IsIn-with_chunks_new c cs (with_chunk d s) i
