-- The order of chunks and of used blocks means nothing.
use Rattle.std.specs.Option.{option_map_or}
use Rattle.std.proofs.Common.{◌≡◌, ◌↔◌, ℕ, zero, suc, ◌+◌, ◌-◌, Bool, true, false, cond, not, eqb, filter, map, List, [], ◌∷◌, Option}
use Rattle.std.proofs.Common.{Some, None, find, true≢false, arith, refl, sym, ◌∙◌, ap, subst, inl, inr}
use Rattle.std.proofs.lemmas.Bool.{eqb-true}
use Rattle.rlsf_base.specs.declared.memory.range.Range.{Range}
use Rattle.rlsf_base.specs.Range.{end_of, range_at}
use Rattle.rlsf_model_sizes.specs.Sizes.{max_pool_size, request_size}
use Rattle.rlsf_model.specs.Allocate.{choice, placed, given, Allocates}
use Rattle.rlsf_model.specs.Insert.{cut, aligned_part, body, with_chunks, extended, appended, Inserts, Appends, grown}
use Rattle.rlsf_model.specs.Join.{join, ends_at}
use Rattle.rlsf_model.specs.Laws.{OrderMeansNothing}
use Rattle.rlsf_model.specs.Lists.{IsIn, without}
use Rattle.rlsf_model.specs.Reallocate.{Plan, plan, ReallocatesBy}
use Rattle.rlsf_model.specs.Release.{released, Deallocates}
use Rattle.rlsf_model.specs.Remove.{lies_within, outside_of, removed}
use Rattle.rlsf_model.specs.Run.{insert, append, allocate, deallocate, reallocate, fill, remove, trim, Fills}
use Rattle.rlsf_model.specs.State.{State, Used, IsReordered, others, filled}
use Rattle.rlsf_model.specs.WellFormed.{covers, itself, IsWellFormed}
use Rattle.rlsf_model.proofs.Allocations.{Allocates-keeps}
use Rattle.rlsf_model.proofs.Chunks.{used-inserted, used-appended}
use Rattle.rlsf_model.proofs.Coverage.{by_test, covers-inside, coverage-IsIn, coverage-unique, coverage-without, find-some, find-none, IsIn-filter, IsIn-filter_from, IsIn-map}
use Rattle.rlsf_model.proofs.Coverage.{IsIn-map_from, IsIn-without, IsIn-without_other}
use Rattle.rlsf_model.proofs.Names.{moved, replanned, filled_if, with_chunk}

-- ---- lists with the same elements

abbrev pub HasSame : {A : Type 0} → List A → List A → Type 0
HasSame {A} xs ys = (x : A) → IsIn x xs ↔ IsIn x ys

pub HasSame-cons : {A : Type 0} (x : A) (xs ys : List A) → HasSame xs ys → HasSame (x ∷ xs) (x ∷ ys)
HasSame-cons x xs ys same y =
    ((λ h. elim h [ inl e ↦ inl e | inr i ↦ inr ((same y).0 i) ]), (λ h. elim h [ inl e ↦ inl e | inr i ↦ inr ((same y).1 i) ]))

pub HasSame-filter : {A : Type 0} (p : A → Bool) (xs ys : List A) → HasSame xs ys → HasSame (filter p xs) (filter p ys)
HasSame-filter p xs ys same x = grind (arith, IsIn-filter, IsIn-filter_from)

HasSame-map : {A B : Type 0} (f : A → B) (xs ys : List A) → HasSame xs ys → HasSame (map f xs) (map f ys)
HasSame-map {A} {B} f xs ys same y = grind (arith, IsIn-map_from, IsIn-map)

HasSame-others : (addr : ℕ) (xs ys : List Used) → HasSame xs ys → HasSame (others addr xs) (others addr ys)
HasSame-others addr = HasSame-filter (λ u. not (eqb u.payload addr))

find-from_none : {A : Type 0} (p : A → Bool) (xs : List A) → ((x : A) → IsIn x xs → p x ≡ false) → find p xs ≡ None
find-from_none p [] fails = refl
find-from_none p (x ∷ xs) fails = ap (λ b. cond b (Some x) (find p xs)) (fails x (inl refl)) ∙ find-from_none p xs (λ y i. fails y (inr i))

-- where one element at most passes a test, what is found doesn't depend on the order
find-same : {A : Type 0} (p : A → Bool) (xs ys : List A) → HasSame xs ys → ((x y : A) → IsIn x xs → IsIn y xs → p x ≡ true → p y ≡ true → x ≡ y)
    → find p xs ≡ find p ys
find-same {A} p xs ys same one = go (find p xs) (find p ys) refl refl
  where
    go : (o q : Option A) → find p xs ≡ o → find p ys ≡ q → find p xs ≡ find p ys
    go None q e f = e ∙ sym (find-from_none p ys (λ y i. find-none p y xs e ((same y).1 i)))
    go (Some x) None e f = let is = find-some p x xs e in absurd (true≢false (sym is.1 ∙ find-none p x ys f ((same x).0 is.0)))
    go (Some x) (Some y) e f =
        let is = find-some p x xs e in
        let has = find-some p y ys f in
        e ∙ ap Some (one x y is.0 ((same y).1 has.0) is.1 has.1) ∙ sym f

-- ---- chunks

module _ {fllen sllen : ℕ} {memory : Range} {s : State} (w : IsWellFormed fllen sllen memory s) (at : ℕ) where
  -- one chunk at most ends at an address
  pub one_ends : (c d : Range) → IsIn c s.chunks → IsIn d s.chunks → ends_at at c ≡ true → ends_at at d ≡ true → c ≡ d
  one_ends c d i j e f =
      let room = (w.chunks c i).has_room in
      let room' = (w.chunks d j).has_room in
      let c_end = eqb-true (end_of c) at e in
      let d_end = eqb-true (end_of d) at f in
      coverage-unique itself c d s.chunks (at - 1) (w.disjoint (at - 1)) i j (covers-inside c (at - 1) (omega arith) (omega arith))
      (covers-inside d (at - 1) (omega arith) (omega arith))

  -- once it is taken out, none does
  none_ends : (x : Range) → IsIn x (without (ends_at at) s.chunks) → IsIn x s.chunks × (ends_at at x ≡ false)
  none_ends x h = by_test (ends_at at x)
      (λ e. absurd (twice (find (ends_at at) s.chunks) refl e))
      (λ e. (IsIn-without (ends_at at) x s.chunks h, e))
    where
      twice : (o : Option Range) → find (ends_at at) s.chunks ≡ o → ends_at at x ≡ true → ⊥
      twice None f e = true≢false (sym e ∙ find-none (ends_at at) x s.chunks f (IsIn-without (ends_at at) x s.chunks h))
      twice (Some c) f e =
          let is = find-some (ends_at at) c s.chunks f in
          let room = (w.chunks c is.0).has_room in
          let c_end = eqb-true (end_of c) at is.1 in
          let same : c ≡ x = one_ends c x is.0 (IsIn-without (ends_at at) x s.chunks h) is.1 e in
          let one : covers c (at - 1) ≡ 1 = covers-inside c (at - 1) (omega arith) (omega arith) in
          let two : covers x (at - 1) ≡ covers c (at - 1) = ap (λ d. covers d (at - 1)) (sym same) in
          omega (arith, w.disjoint (at - 1), coverage-without itself (ends_at at) c s.chunks (at - 1) f, coverage-IsIn itself x (without (ends_at at) s.chunks) (at - 1) h)

-- two states have the same chunks, in any order, and the same free ranges
pub record HasSameRanges (s t : State) : Type 0 where
  pub chunks : HasSame s.chunks t.chunks
  pub free : s.free ≡ t.free

with_chunks-same : (cs : List Range) (s s' : State) → HasSameRanges s s' → HasSameRanges (with_chunks cs s) (with_chunks cs s')
with_chunks-same [] s s' r = r
with_chunks-same (c ∷ cs) s s' r =
    with_chunks-same cs (with_chunk c s) (with_chunk c s') (record { chunks = HasSame-cons c s.chunks s'.chunks r.chunks; free = ap (λ l. body c ∷ l) r.free })

module _ {fllen sllen : ℕ} {memory : Range} {s s' : State} (w : IsWellFormed fllen sllen memory s) (w' : IsWellFormed fllen sllen memory s') (r : HasSameRanges s s') where
  HasSame-without : (at : ℕ) → HasSame (without (ends_at at) s.chunks) (without (ends_at at) s'.chunks)
  HasSame-without at x = (
    (λ h. let (i, e) = none_ends w at x h in IsIn-without_other (ends_at at) x s'.chunks e ((r.chunks x).0 i)),
    (λ h. let (i, e) = none_ends w' at x h in IsIn-without_other (ends_at at) x s.chunks e ((r.chunks x).1 i)),
  )

  grown_if-same : (o : Option Range) (n : ℕ) → HasSameRanges (option_map_or (λ c. grown c n s) o s) (option_map_or (λ c. grown c n s') o s')
  grown_if-same None n = r
  grown_if-same (Some c) n = record {
    chunks = HasSame-cons (range_at c.start (c.len + n)) (without (ends_at (end_of c)) s.chunks) (without (ends_at (end_of c)) s'.chunks) (HasSame-without (end_of c));
    free = ap (join (range_at (end_of c - 32) n)) r.free;
  }

  extended-same : (at n : ℕ) → HasSameRanges (extended at n s) (extended at n s')
  extended-same at zero = r
  extended-same at (suc n) =
      let found = find-same (ends_at at) s.chunks s'.chunks r.chunks (one_ends w at) in
      subst (λ o. HasSameRanges (option_map_or (λ c. grown c (suc n) s) (find (ends_at at) s.chunks) s) (option_map_or (λ c. grown c (suc n) s') o s')) found
      (grown_if-same (find (ends_at at) s.chunks) (suc n))

  appended-same : (o : Option ℕ) (q : Range) → HasSameRanges (appended o q s) (appended o q s')
  appended-same o q = grind (arith, extended-same, with_chunks-same)

  HasSameRanges-at : {t t' u u' : State} → t ≡ u → t' ≡ u' → HasSameRanges u u' → HasSameRanges t t'
  HasSameRanges-at {t} {t'} {u} e e' q = subst (λ x. HasSameRanges x t') (sym e) (subst (HasSameRanges u) (sym e') q)

  -- from states with the same ranges, inserted memory leads to such states
  pub HasSameRanges-inserted : (q : Range) (m n : Option ℕ) (t t' : State) → Inserts fllen s q m t → Inserts fllen s' q n t' → HasSameRanges t t'
  HasSameRanges-inserted q m n t t' a b = HasSameRanges-at a.after b.after (with_chunks-same (cut (max_pool_size fllen) (aligned_part q)) s s' r)

  pub HasSameRanges-appended : (q : Range) (m n : ℕ) (t t' : State) → Appends fllen s q m t → Appends fllen s' q n t' → HasSameRanges t t'
  HasSameRanges-appended q m n t t' a b = HasSameRanges-at a.after b.after (appended-same (max_pool_size fllen) q)

-- from states with the same ranges, a removal leads to such states
pub HasSameRanges-removed : (q : Range) (s s' : State) → HasSameRanges s s' → HasSameRanges (removed q s) (removed q s')
HasSameRanges-removed q s s' r = record {
  chunks = HasSame-filter (λ c. not (lies_within q c)) s.chunks s'.chunks r.chunks;
  free = ap (outside_of q) r.free;
}

ranges_of : {s t : State} → IsReordered s t → HasSameRanges s t
ranges_of r = record { chunks = r.chunks; free = r.free }

-- states with the same ranges, whose used blocks are those of reordered states
reordered_from : {s s' t t' : State} → IsReordered s s' → HasSameRanges t t' → t.used ≡ s.used → t'.used ≡ s'.used → IsReordered t t'
reordered_from {s} {s'} {t} {t'} r q e e' =
    record { chunks = q.chunks; used = subst (λ l. HasSame l t'.used) (sym e) (subst (HasSame s.used) (sym e') r.used); free = q.free }

module _ {fllen sllen : ℕ} {memory : Range} {s s' : State} (w : IsWellFormed fllen sllen memory s) (w' : IsWellFormed fllen sllen memory s') (r : IsReordered s s') where
  -- a step from the other order, and what it leads to
  abbrev Also : (State → Type 0) → State → Type 0
  Also Step t = (t' : State) × Step t' × IsReordered t t'

  at_first : {t u : State} → t ≡ u → (u' : State) → IsReordered u u' → IsReordered t u'
  at_first e u' q = subst (λ x. IsReordered x u') (sym e) q

  allocate-reordered : (size align : ℕ) (o : Option ℕ) (t : State) → Allocates sllen s size align o t → Also (Allocates sllen s' size align o) t
  allocate-reordered size align None t step = (s', (subst (λ l. choice sllen (request_size size align) l ≡ None) r.free step.0, refl), at_first step.1 s' r)
  allocate-reordered size align (Some addr) t step =
      let f = step.range in
      let u = placed f size align step.bytes in (
        given sllen s' f u,
        record {
          range = f;
          bytes = step.bytes;
          chosen = subst (λ l. choice sllen (request_size size align) l ≡ Some f) r.free step.chosen;
          answer = step.answer;
          length = step.length;
          after = refl;
        },
        at_first step.after (given sllen s' f u)
            (record {
              chunks = r.chunks;
              used = HasSame-cons u s.used s'.used r.used;
              free = ap (λ l. (given sllen (record { chunks = s.chunks; used = s.used; free = l }) f u).free) r.free;
            }),
      )

  deallocate-reordered : (addr : ℕ) (t : State) → Deallocates s addr t → Also (Deallocates s' addr) t
  deallocate-reordered addr t step =
      let u = step.block in (
        released s' u,
        record { block = u; holds = ((r.used u).0 step.holds.0, step.holds.1); after = refl },
        at_first step.after (released s' u) (record { chunks = r.chunks; used = HasSame-others u.payload s.used s'.used r.used; free = ap (join u.block) r.free }),
      )

  fill-reordered : (addr : ℕ) (bytes : List ℕ) (t : State) → Fills s addr bytes t → Also (Fills s' addr bytes) t
  fill-reordered addr bytes t step = (
    filled s' addr bytes,
    record { block = step.block; holds = ((r.used step.block).0 step.holds.0, step.holds.1); length = step.length; after = refl },
    at_first step.after (filled s' addr bytes) (record { chunks = r.chunks; used = HasSame-map (filled_if addr bytes) s.used s'.used r.used; free = r.free }),
  )

module _ {fllen sllen : ℕ} {memory : Range} {s s' : State} (w : IsWellFormed fllen sllen memory s) (w' : IsWellFormed fllen sllen memory s') (r : IsReordered s s') where
  reallocate-reordered : (u : Used) → IsIn u s.used → (size : ℕ) (o : Option Plan) (n : Option ℕ) (t : State) → ReallocatesBy sllen s u size o n t
      → (t' : State) × ReallocatesBy sllen s' u size o n t' × IsReordered t t'
  reallocate-reordered u h size (Some p) None t step = absurd step
  reallocate-reordered u h size (Some p) (Some addr) t step =
      let v = moved u p step.bytes in (
        replanned s' u p step.bytes,
        record { bytes = step.bytes; answer = step.answer; length = step.length; kept = step.kept; after = refl },
        at_first w w' r step.after (replanned s' u p step.bytes)
            (record {
              chunks = r.chunks;
              used = HasSame-cons v (others u.payload s.used) (others u.payload s'.used) (HasSame-others u.payload s.used s'.used r.used);
              free = refl;
            }),
      )
  reallocate-reordered u h size None None t step = allocate-reordered w w' r size u.align None t step
  reallocate-reordered u h size None (Some addr) t step =
      let power = (w.used u h).power in
      let (m, a, q) = allocate-reordered w w' r size u.align (Some addr) step.meanwhile step.allocated in
      let (t', d, q') =
      deallocate-reordered (Allocates-keeps w size u.align (Some addr) step.meanwhile power step.allocated) (Allocates-keeps w' size u.align (Some addr) m power a) q u.payload
      t step.released in
      (t', record { meanwhile = m; allocated = a; block = step.block; holds = ((q.used step.block).0 step.holds.0, step.holds.1); kept = step.kept; released = d }, q')

pub order_means_nothing : OrderMeansNothing
order_means_nothing fllen sllen memory s s' t (insert q n) w w' r step =
    let t' = with_chunks (cut (max_pool_size fllen) (aligned_part q)) s' in
    let again : Inserts fllen s' q n t' = record { answer = step.answer; after = refl } in
    (t', again, reordered_from r (HasSameRanges-inserted w w' (ranges_of r) q n n t t' step again) (used-inserted fllen s t q n step) (used-inserted fllen s' t' q n again))
order_means_nothing fllen sllen memory s s' t (append q n) w w' r step =
    let t' = appended (max_pool_size fllen) q s' in
    let again : Appends fllen s' q n t' = record { answer = step.answer; after = refl } in
    (t', again, reordered_from r (HasSameRanges-appended w w' (ranges_of r) q n n t t' step again) (used-appended fllen s t q n step) (used-appended fllen s' t' q n again))
order_means_nothing fllen sllen memory s s' t (allocate size align o) w w' r step = allocate-reordered w w' r size align o t step
order_means_nothing fllen sllen memory s s' t (deallocate addr) w w' r step = deallocate-reordered w w' r addr t step
order_means_nothing fllen sllen memory s s' t (reallocate addr size o) w w' r step =
    let u = step.block in
    let same : plan s u size ≡ plan s' u size = ap (λ l. plan (record { chunks = []; used = []; free = l }) u size) r.free in
    let (t', again, q) = reallocate-reordered w w' r u step.holds.0 size (plan s u size) o t step.step in
    (t', record { block = u; holds = ((r.used u).0 step.holds.0, step.holds.1); step = subst (λ p. ReallocatesBy sllen s' u size p o t') same again }, q)
order_means_nothing fllen sllen memory s s' t (fill addr bytes) w w' r step = fill-reordered w w' r addr bytes t step
order_means_nothing fllen sllen memory s s' t (remove q) w w' r step =
    let t' = removed q s' in
    let same = HasSameRanges-removed q s s' (ranges_of r) in
    (t', refl, subst (λ x. IsReordered x t') (sym step) (reordered_from r same refl refl))
order_means_nothing fllen sllen memory s s' t (trim count) w w' r step = absurd step
