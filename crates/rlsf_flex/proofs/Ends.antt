-- The end: one footer after another is read, and its range returned.
use Rattle.std.proofs.Common.{◌≡◌, ℕ, zero, suc, ◌+◌, ◌^◌, ◌<◌, ◌≤◌, List, [], ◌∷◌, ◌++◌, length, map, append_assoc, Option, Some, None, arith}
use Rattle.std.proofs.Common.{true, false, ◌||◌, refl, sym, ◌∙◌, ap, subst, inl, inr, cond}
use Rattle.std.proofs.lemmas.List.{map-append}
use Rattle.std.proofs.lemmas.Option.{none-some, same_Some}
use Rattle.std.specs.Option.{option_map}
use Rattle.rlsf_base.specs.declared.memory.range.Range.{Range}
use Rattle.rlsf_base.specs.Range.{end_of}
use Rattle.rlsf_base.specs.Space.{Space, IsWord, range_of}
use Rattle.rlsf_tlsf.specs.Allocator.{Allocator}
use Rattle.rlsf_flex.specs.declared.pool.Pool.{Pool}
use Rattle.rlsf_flex.specs.Footers.{AreSpelled, Footers, first, footer_of}
use Rattle.rlsf_flex.specs.StandsFor.{FlexStandsFor, flex_contents, kept_of}
use Rattle.rlsf_model.specs.FlexWellFormed.{IsNewest}
use Rattle.rlsf_model.specs.End.{notes_at_end, owed_at_end}
use Rattle.rlsf_model.specs.Lists.{IsIn}
use Rattle.rlsf_model.specs.Note.{Note, LeadsBy, dealloc}
use Rattle.rlsf_model.specs.Terms.{Terms}
use Rattle.rlsf_model.proofs.Notes.{LeadsBy-append}
use Rattle.rlsf_flex.proofs.DisjointRanges.{length-disjoint}
use Rattle.rlsf_flex.proofs.FooterWords.{before, before-first}
use Rattle.rlsf_flex.proofs.Frames.{outstanding_in}
use Rattle.rlsf_model.proofs.RangesInChunks.{AreOutstanding-rest}

-- ---- the ranges that are left

-- no range begins at the address 0
starts : (m : Space) (next : Option Range) (ps : List Range) → AreSpelled m next ps → (p : Range) → IsIn p ps → 0 < p.start
starts m next ps is p i = omega (arith, is.nonzero, is.placed.in_space p i)

-- how many ranges follow one another, by their footers, if there are no more than so many
unfoldable pub ranges_from : ℕ → Space → Option Range → ℕ
ranges_from zero m next = 0
ranges_from (suc most) m None = 0
ranges_from (suc most) m (Some p) = suc (ranges_from most m (before m p))

ranges_from-length : (most : ℕ) (m : Space) (ps : List Range) → Footers m ps → ((q : Range) → IsIn q ps → 0 < q.start) → length ps ≤ most
    → ranges_from most m (first ps) ≡ length ps
unfolding ranges_from
ranges_from-length zero m [] f some few = refl
ranges_from-length zero m (p ∷ ps) f some few = absurd (omega arith)
ranges_from-length (suc most) m [] f some few = refl
ranges_from-length (suc most) m (p ∷ ps) f some few =
    ap suc (ap (ranges_from most m) (before-first m p ps f (λ q i. some q (inr i))) ∙ ranges_from-length most m ps f.2 (λ q i. some q (inr i)) (omega arith))

-- the ranges that a memory spells don't outnumber its bytes
ranges_from-spelled : (m : Space) (next : Option Range) (ps : List Range) → AreSpelled m next ps → ranges_from (length m.bytes) m next ≡ length ps
ranges_from-spelled m next ps is =
    let few = length-disjoint ps m.start (length m.bytes) (λ p i. (omega (arith, is.placed.long p i), is.placed.in_space p i)) is.placed.disjoint in
    ap (ranges_from (length m.bytes) m) is.is_first ∙ ranges_from-length (length m.bytes) m ps is.footers (starts m next ps is) few

-- what is known of a range that is at hand
pub record IsNext (m : Space) (p : Range) (ps : List Range) : Type 0 where
  pub rest : List Range
  pub split : ps ≡ p ∷ rest
  pub words : IsWord m (footer_of p) × IsWord m (footer_of p + 8)
  pub long : (16 ≤ end_of p) × (end_of p < 2 ^ 64)
  pub footers : Footers m (p ∷ rest)
  pub left : AreSpelled m (first rest) rest

pub AreSpelled-next : (m : Space) (p : Range) (ps : List Range) → AreSpelled m (Some p) ps → IsNext m p ps
AreSpelled-next m p [] is = absurd (none-some p (sym is.is_first))
AreSpelled-next m p (q ∷ qs) is =
    let same : p ≡ q = same_Some p q is.is_first in
    let place = is.placed.in_space q (inl refl) in
    let long = is.placed.long q (inl refl) in
    subst (λ (p : Range). IsNext m p (q ∷ qs)) (sym same) (record {
      rest = qs;
      split = refl;
      words = ((omega arith, (omega (arith, place.0, long), omega (arith, place.1, long))), (omega arith, (omega (arith, place.0, long), omega (arith, place.1, long))));
      long = (omega (arith, long), omega (arith, place.1, is.addressable));
      footers = is.footers;
      left = record { is_first = refl; footers = is.footers.2; placed = AreOutstanding-rest (range_of m) q qs is.placed; nonzero = is.nonzero; addressable = is.addressable };
    })

-- some ranges were returned, and the others follow
pub record IsAt {S : Type 0} (owes : S → List Range → Type 0) (leads : S → Note → S → Type 0) (m : Space) (pools : List Range) (begin : S) (next : Option Range)
    (now : S) : Type 0 where
  pub gone : List Range
  pub rest : List Range
  pub split : pools ≡ gone ++ rest
  pub spelled : AreSpelled m next rest
  pub owed : owes now rest
  pub notes : LeadsBy leads begin (map dealloc gone) now

-- at the beginning, none was
pub IsAt-begun : {S : Type 0} {owes : S → List Range → Type 0} {leads : S → Note → S → Type 0} {m : Space} {pools : List Range} {begin : S} {next : Option Range}
    → AreSpelled m next pools → owes begin pools → IsAt owes leads m pools begin next begin
IsAt-begun {pools = pools} is owed = record { gone = []; rest = pools; split = refl; spelled = is; owed = owed; notes = refl }

module _ {S : Type 0} {owes : S → List Range → Type 0} {leads : S → Note → S → Type 0} {m : Space} {pools : List Range} {begin now : S} {next : Option Range}
    (at : IsAt owes leads m pools begin next now) {p : Range} (some : next ≡ Some p) where
  pub IsAt-front : IsNext m p at.rest
  IsAt-front = AreSpelled-next m p at.rest (subst (λ n. AreSpelled m n at.rest) some at.spelled)

  -- no range behind it begins at the address 0
  pub IsAt-starts : (q : Range) → IsIn q IsAt-front.rest → 0 < q.start
  IsAt-starts = starts m (first IsAt-front.rest) IsAt-front.rest IsAt-front.left

  -- it is outstanding
  pub IsAt-owed : owes now (p ∷ IsAt-front.rest)
  IsAt-owed = subst (owes now) IsAt-front.split at.owed

  module _ {later_next : Option Range} (follows : later_next ≡ first IsAt-front.rest) where
    -- it is returned
    pub IsAt-back : (later : S) → leads now (dealloc p) later → owes later IsAt-front.rest → IsAt owes leads m pools begin later_next later
    IsAt-back later led owed = record {
      gone = at.gone ++ p ∷ [];
      rest = IsAt-front.rest;
      split = at.split ∙ ap (λ rest. at.gone ++ rest) IsAt-front.split ∙ sym (append_assoc at.gone (p ∷ []) IsAt-front.rest);
      spelled = subst (λ n. AreSpelled m n IsAt-front.rest) (sym follows) IsAt-front.left;
      owed = owed;
      notes =
          subst (λ ns. LeadsBy leads begin ns later) (sym (map-append dealloc at.gone (p ∷ [])))
          (LeadsBy-append leads begin now later (map dealloc at.gone) (dealloc p ∷ []) at.notes (later, led, refl));
    }

    pub IsAt-fewer : ranges_from (length m.bytes) m later_next < ranges_from (length m.bytes) m next
    IsAt-fewer =
        let here = ranges_from-spelled m next at.rest at.spelled in
        let there = ranges_from-spelled m (first IsAt-front.rest) IsAt-front.rest IsAt-front.left in
        omega (arith, here, there, ap (ranges_from (length m.bytes) m) follows, ap length IsAt-front.split)

-- ---- the end

-- where the source takes ranges back, those that are outstanding are spelled in the allocator's memory
pub spelled : {S : Type 0} {fllen sllen : ℕ} {terms : S → Terms} {owes : S → List Range → Type 0} {x : S} {a : Allocator} (kept : Option Pool) {ranges : List Range}
    (newest : Option Range) → FlexStandsFor fllen sllen terms owes (flex_contents a kept x ranges)
    → (terms x).dealloc ≡ true → newest ≡ option_map (λ (p : Pool). p.range) kept → AreSpelled a.memory newest ranges
spelled {S} {fllen} {sllen} {terms} {owes} {x} {a} kept {ranges} newest v has is_newest = record {
  is_first = is_newest ∙ is_first kept v.well_formed.newest;
  footers = v.footers has;
  placed = outstanding_in a.memory (terms x).space ranges v.well_formed.space v.well_formed.pools;
  nonzero = v.nonzero;
  addressable = v.well_formed.machine.addressable;
}
  where
    is_first : (k : Option Pool) → IsNewest (terms x) (kept_of k) ranges a.state.chunks → option_map (λ (p : Pool). p.range) k ≡ first ranges
    is_first None is = sym (ap first (is (ap (λ b. b || (terms x).grow) has)))
    is_first (Some k) is = sym (ap first is.split)

-- the end, by whether the source takes ranges back
pub ends_with : {S : Type 0} (owes : S → List Range → Type 0) (leads : S → Note → S → Type 0) (t : Terms) (x y : S) (pools : List Range) → t.dealloc ≡ true
    → LeadsBy leads x (map dealloc pools) y × owes y []
    → LeadsBy leads x (notes_at_end t pools) y × owes y (owed_at_end t pools)
ends_with owes leads t x y pools has (led, owed) =
    (subst (λ b. LeadsBy leads x (cond b (map dealloc pools) []) y) (sym has) led, subst (λ b. owes y (cond b [] pools)) (sym has) owed)

pub ends_without : {S : Type 0} (owes : S → List Range → Type 0) (leads : S → Note → S → Type 0) (t : Terms) (x : S) (pools : List Range) → t.dealloc ≡ false
    → owes x pools
    → LeadsBy leads x (notes_at_end t pools) x × owes x (owed_at_end t pools)
ends_without owes leads t x pools lacks owed =
    (subst (λ b. LeadsBy leads x (cond b (map dealloc pools) []) x) (sym lacks) refl, subst (λ b. owes x (cond b [] pools)) (sym lacks) owed)
