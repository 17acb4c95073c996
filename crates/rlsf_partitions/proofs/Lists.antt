-- Lists of pools, of which one is changed.
use Rattle.std.proofs.Common.{◌≡◌, ℕ, zero, suc, ◌+◌, ◌-◌, ◌<◌, ◌≤◌, true, false, cond, List, [], ◌∷◌, ◌++◌, length, map, take, Option, Some, None, nat_le}
use Rattle.std.proofs.Common.{arith, inl, inr, refl, sym, ◌∙◌, ap, subst}
use Rattle.std.proofs.lemmas.Bool.{cases_Bool}
use Rattle.std.proofs.lemmas.Bool.Decides.{nat_tests}
use Rattle.std.proofs.lemmas.List.Sums.{sum_by-cons}
use Rattle.std.proofs.lemmas.Option.{none-some, same_Some}
use Rattle.std.specs.Option.{option_map}
use Rattle.std.specs.Prelude.{slice_get, slice_set, sum_by}
use Rattle.rlsf_model_sizes.specs.Sizes.{pool_size_for_objects}
use Rattle.rlsf_heap.specs.Heap.{PayloadView}
use Rattle.rlsf_partitions.specs.Partitions.{ArePossible, HasAt, IsFullAt, IsGivenBackAt, IsKept, IsOf, IsPlaced, ArePossibleLengths, IsTakenAt, PartitionView, Quota, fresh}
use Rattle.rlsf_partitions.specs.Partitions.{partition_for, partitions_view, quota_of, vacant, with_one_less, with_one_more, with_one_more_for}

-- ---- an element is changed

module _ {A B : Type 0} (f : A → B) where
  pub get-map : (xs : List A) (k : ℕ) (x : A) → slice_get xs k ≡ Some x → slice_get (map f xs) k ≡ Some (f x)
  get-map [] k x there = absurd (none-some x there)
  get-map (y ∷ xs) zero x there = ap Some (ap f (same_Some y x there))
  get-map (y ∷ xs) (suc k) x there = get-map xs k x there

  pub set-map : (xs : List A) (k : ℕ) (x n : A) → slice_get xs k ≡ Some x → map f (slice_set xs k n) ≡ slice_set (map f xs) k (f n)
  set-map [] k x n there = absurd (none-some x there)
  set-map (y ∷ xs) zero x n there = refl
  set-map (y ∷ xs) (suc k) x n there = ap (λ l. f y ∷ l) (set-map xs k x n there)

module _ {A : Type 0} where
  pub set-same : (xs : List A) (k : ℕ) (x : A) → slice_get xs k ≡ Some x → slice_set xs k x ≡ xs
  set-same [] k x there = absurd (none-some x there)
  set-same (y ∷ xs) zero x there = ap (λ z. z ∷ xs) (sym (same_Some y x there))
  set-same (y ∷ xs) (suc k) x there = ap (λ l. y ∷ l) (set-same xs k x there)

  pub get-set : (xs : List A) (k : ℕ) (x n : A) → slice_get xs k ≡ Some x → slice_get (slice_set xs k n) k ≡ Some n
  get-set [] k x n there = absurd (none-some x there)
  get-set (y ∷ xs) zero x n there = refl
  get-set (y ∷ xs) (suc k) x n there = get-set xs k x n there

  pub set-set : (xs : List A) (k : ℕ) (x n m : A) → slice_get xs k ≡ Some x → slice_set (slice_set xs k n) k m ≡ slice_set xs k m
  set-set [] k x n m there = absurd (none-some x there)
  set-set (y ∷ xs) zero x n m there = refl
  set-set (y ∷ xs) (suc k) x n m there = ap (λ l. y ∷ l) (set-set xs k x n m there)

  pub sum-set : (f : A → ℕ) (xs : List A) (k : ℕ) (x n : A) → slice_get xs k ≡ Some x → sum_by f (slice_set xs k n) + f x ≡ sum_by f xs + f n
  sum-set f [] k x n there = absurd (none-some x there)
  sum-set f (y ∷ xs) zero x n there = omega (arith, sum_by-cons f y xs, sum_by-cons f n xs, ap f (same_Some y x there))
  sum-set f (y ∷ xs) (suc k) x n there = omega (arith, sum_by-cons f y xs, sum_by-cons f y (slice_set xs k n), sum-set f xs k x n there)

-- ---- numbers

pub more-set : (qs : List Quota) (k : ℕ) (q : Quota) → slice_get qs k ≡ Some q → with_one_more k qs ≡ slice_set qs k (record q { live = q.live + 1 })
more-set [] k q there = absurd (none-some q there)
more-set (p ∷ qs) zero q there = ap {A = Quota} (λ x. record x { live = x.live + 1 } ∷ qs) (same_Some p q there)
more-set (p ∷ qs) (suc k) q there = ap (λ l. p ∷ l) (more-set qs k q there)

pub less-set : (qs : List Quota) (k : ℕ) (q : Quota) → slice_get qs k ≡ Some q → with_one_less k qs ≡ slice_set qs k (record q { live = q.live - 1 })
less-set [] k q there = absurd (none-some q there)
less-set (p ∷ qs) zero q there = ap {A = Quota} (λ x. record x { live = x.live - 1 } ∷ qs) (same_Some p q there)
less-set (p ∷ qs) (suc k) q there = ap (λ l. p ∷ l) (less-set qs k q there)

-- each size leads where it led before
more_places : (k : ℕ) (qs : List Quota) (size : ℕ) → partition_for (with_one_more k qs) size ≡ partition_for qs size
more_places k [] size = refl
more_places zero (q ∷ qs) size = refl
more_places (suc k) (q ∷ qs) size = ap (λ o. cond (nat_le size q.size) (Some 0) (option_map (λ p. suc p) o)) (more_places k qs size)

less_places : (k : ℕ) (qs : List Quota) (size : ℕ) → partition_for (with_one_less k qs) size ≡ partition_for qs size
less_places k [] size = refl
less_places zero (q ∷ qs) size = refl
less_places (suc k) (q ∷ qs) size = ap (λ o. cond (nat_le size q.size) (Some 0) (option_map (λ p. suc p) o)) (less_places k qs size)

-- where a size leads
pub record IsFound (qs : List Quota) (size place : ℕ) : Type 0 where
  pub quota : Quota
  pub there : slice_get qs place ≡ Some quota
  pub reaches : size ≤ quota.size
  pub room : vacant qs size ≡ quota.count - quota.live
  pub changed : (n : Quota) → n.size ≡ quota.size → vacant (slice_set qs place n) size ≡ n.count - n.live

-- a place behind the first one is one of the rest
behind : (o : Option ℕ) (place : ℕ) → option_map (λ k. suc k) o ≡ Some place → (k : ℕ) × (o ≡ Some k) × (place ≡ suc k)
behind None place e = absurd (none-some place e)
behind (Some k) place e = (k, refl, sym (same_Some (suc k) place e))

pub found : (qs : List Quota) (size place : ℕ) → partition_for qs size ≡ Some place → IsFound qs size place
found [] size place told = absurd (none-some place told)
found (q ∷ qs) size place told = elim (cases_Bool (nat_le size q.size)) [
  | inl is_first ↦ record { quota = q; there = grind arith; reaches = grind (arith, nat_tests); room = grind arith; changed = grind arith }
  | inr is_not ↦
      let (k, led, at) = behind (partition_for qs size) place (grind arith) in
      let is = found qs size k led in
      record { quota = is.quota; there = grind (arith, is.there); reaches = is.reaches; room = grind (arith, is.room); changed = grind (arith, is.changed) }
]

-- the pool at the place is the one that the size leads to
pub more_for : (qs : List Quota) (size place : ℕ) → partition_for qs size ≡ Some place → with_one_more place qs ≡ with_one_more_for size qs
more_for [] size place told = refl
more_for (q ∷ qs) size place told = grind (arith, more_for qs size)

-- no pool reaches the size
pub none_found : (qs : List Quota) (size : ℕ) → partition_for qs size ≡ None → vacant qs size ≡ 0
none_found [] size told = refl
none_found (q ∷ qs) size told = grind (arith, none_found qs size)

-- ---- the loop that looks for a pool

-- no pool before a place reaches the size
unfoldable pub NoneBefore : List PartitionView → ℕ → ℕ → Type 0
NoneBefore ps size place = (k : ℕ) (p : PartitionView) → k < place → slice_get ps k ≡ Some p → p.size < size

pub none_before : (ps : List PartitionView) (size : ℕ) → NoneBefore ps size 0
unfolding NoneBefore
none_before ps size k p less there = absurd (omega (arith, less))

pub none_more : (ps : List PartitionView) (size place : ℕ) (p : PartitionView) → NoneBefore ps size place → slice_get ps place ≡ Some p → nat_le size p.size ≡ false
    → NoneBefore ps size (place + 1)
unfolding NoneBefore
none_more ps size place p before there short k q less at = grind (arith, before, nat_tests)

tail : (p : PartitionView) (ps : List PartitionView) (size place : ℕ) → NoneBefore (p ∷ ps) size (suc place) → NoneBefore ps size place
unfolding NoneBefore
tail p ps size place before k q less there = before (suc k) q (omega (arith, less)) there

head : (p : PartitionView) (ps : List PartitionView) (size place : ℕ) → NoneBefore (p ∷ ps) size (suc place) → nat_le size p.size ≡ false
unfolding NoneBefore
head p ps size place before =
    let small : p.size < size = before 0 p (omega arith) refl in
    grind (arith, nat_tests)

pub first_here : (ps : List PartitionView) (size place : ℕ) (p : PartitionView) → NoneBefore ps size place → slice_get ps place ≡ Some p → nat_le size p.size ≡ true
    → Some place ≡ partition_for (map quota_of ps) size
first_here [] size place p before there reaches = absurd (none-some p there)
first_here (q ∷ ps) size zero p before there reaches = grind (arith, same_Some)
first_here (q ∷ ps) size (suc place) p before there reaches = grind (arith, first_here ps size place p, tail, head)

pub none_here : (ps : List PartitionView) (size : ℕ) → NoneBefore ps size (length ps) → None ≡ partition_for (map quota_of ps) size
none_here [] size before = refl
none_here (q ∷ ps) size before = grind (arith, none_here ps size, tail, head)

-- ---- a payload is allocated

module _ {ps ns : List PartitionView} {place : ℕ} {p : PayloadView} (t : IsTakenAt ps ns place p) where
  abbrev qs : List Quota
  qs = map quota_of ps

  at : slice_get qs place ≡ Some (quota_of t.was)
  at = get-map quota_of ps place t.was t.there

  set_is : map quota_of ns ≡ slice_set qs place (record (quota_of t.was) { live = t.was.live + 1 })
  set_is = ap (map quota_of) t.set ∙ set-map quota_of ps place t.was t.now t.there ∙ ap (λ q. slice_set qs place (quota_of q)) t.taken.taken

  pub taken_quotas : map quota_of ns ≡ with_one_more place qs
  taken_quotas = set_is ∙ sym (more-set qs place (quota_of t.was) at)

  pub taken_owner : IsOf (map (λ q. q.identity) ps) place p
  taken_owner = get-map (λ q. q.identity) ps place t.was t.there ∙ ap Some (sym t.taken.identity)

  pub taken_kept : IsKept (partitions_view ps) (partitions_view ns) 27
  taken_kept = grind (arith, set-map, set-same, get-map, taken_quotas, more_places, qs, sum-set)

  module _ (size : ℕ) (told : partition_for qs size ≡ Some place) where
    same : quota_of t.was ≡ (found qs size place told).quota
    same = same_Some (quota_of t.was) (found qs size place told).quota (sym at ∙ (found qs size place told).there)

    taken_less : vacant qs size ≡ vacant (map quota_of ns) size + 1
    taken_less = grind (arith, found, qs, set_is, same)

    pub taken_placed : IsPlaced (partitions_view ps) (partitions_view ns) size place p
    taken_placed = grind (arith, taken_quotas, more_places, qs, taken_owner, more_for, taken_less, found, same)

    pub some_vacant : vacant qs size ≡ 0 → ⊥
    some_vacant none = omega (arith, none, taken_less)

-- a full pool has no room for more
pub full_vacant : (ps : List PartitionView) (size place : ℕ) → partition_for (map quota_of ps) size ≡ Some place → IsFullAt ps place → vacant (map quota_of ps) size ≡ 0
full_vacant ps size place told (p, there, full) = grind (arith, found (map quota_of ps) size place told, get-map)

-- so many payloads have room as are counted at the place
pub vacant_here : (ps : List PartitionView) (size place n : ℕ) → partition_for (map quota_of ps) size ≡ Some place → HasAt ps place (λ p. n + p.live ≡ p.count)
    → n ≡ vacant (map quota_of ps) size
vacant_here ps size place n told (p, there, counted) = grind (arith, found (map quota_of ps) size place told, get-map)

-- ---- a payload is deallocated

module _ {ps ns : List PartitionView} {place : ℕ} (g : IsGivenBackAt ps ns place) where
  abbrev rs : List Quota
  rs = map quota_of ps

  was_at : slice_get rs place ≡ Some (quota_of g.was)
  was_at = get-map quota_of ps place g.was g.there

  now_is : map quota_of ns ≡ slice_set rs place (quota_of g.now)
  now_is = ap (map quota_of) g.set ∙ set-map quota_of ps place g.was g.now g.there

  less_is : record (quota_of g.was) { live = g.was.live - 1 } ≡ quota_of g.now
  less_is = grind (arith, g.given_back)

  pub given_freed : map quota_of ns ≡ with_one_less place rs
  given_freed = now_is ∙ ap (slice_set rs place) (sym less_is) ∙ sym (less-set rs place (quota_of g.was) was_at)

  pub given_before : rs ≡ with_one_more place (map quota_of ns)
  given_before =
      let now_at : slice_get (slice_set rs place (quota_of g.now)) place ≡ Some (quota_of g.now) = get-set rs place (quota_of g.was) (quota_of g.now) was_at in
      sym (ap (with_one_more place) now_is ∙ more-set (slice_set rs place (quota_of g.now)) place (quota_of g.now) now_at
      ∙ set-set rs place (quota_of g.was) (quota_of g.now) (record (quota_of g.now) { live = g.now.live + 1 }) was_at
      ∙ ap (λ w. slice_set rs place (quota_of w)) (sym g.given_back) ∙ set-same rs place (quota_of g.was) was_at)

  pub given_room : (size : ℕ) → partition_for rs size ≡ Some place → vacant (map quota_of ns) size ≡ vacant rs size + 1
  given_room size told =
      let ms = map quota_of ns in
      let led : partition_for ms size ≡ Some place = ap (λ l. partition_for l size) given_freed ∙ less_places place rs size ∙ told in
      let f = found ms size place led in
      let now_at : slice_get ms place ≡ Some (quota_of g.now) = ap (λ l. slice_get l place) now_is
      ∙ get-set rs place (quota_of g.was) (quota_of g.now) was_at in
      let same : quota_of g.now ≡ f.quota = same_Some (quota_of g.now) f.quota (sym now_at ∙ f.there) in
      let more : Quota = record (quota_of g.now) { live = g.now.live + 1 } in
      let before : vacant rs size ≡ g.now.count - (g.now.live + 1) =
      ap (λ l. vacant l size) (given_before ∙ more-set ms place (quota_of g.now) now_at) ∙ f.changed more (ap (λ x. x.size) same) in
      let live : g.was.live ≡ g.now.live + 1 = ap (λ x. x.live) g.given_back in
      let count : g.was.count ≡ g.now.count = ap (λ x. x.count) g.given_back in
      omega (arith, f.room, ap (λ x. x.count) same, ap (λ x. x.live) same, before, live, count, g.within)

  pub given_kept : IsKept (partitions_view ps) (partitions_view ns) 32
  given_kept = grind (arith, set-map, set-same, get-map, given_freed, less_places, rs, sum-set)

-- ---- new pools

take-get : {A : Type 0} (xs : List A) (i : ℕ) (x : A) → slice_get xs i ≡ Some x → take (suc i) xs ≡ take i xs ++ x ∷ []
take-get [] i x there = absurd (none-some x there)
take-get (y ∷ xs) zero x there = ap (λ z. z ∷ []) (same_Some y x there)
take-get (y ∷ xs) (suc i) x there = ap (λ l. y ∷ l) (take-get xs i x there)

take-next : {A : Type 0} (xs : List A) (i : ℕ) (x : A) → slice_get xs i ≡ Some x → take (i + 1) xs ≡ take i xs ++ x ∷ []
take-next xs i x there = grind (arith, take-get)

map-last : {A B : Type 0} (f : A → B) (xs : List A) (x : A) → map f (xs ++ x ∷ []) ≡ map f xs ++ f x ∷ []
map-last f [] x = refl
map-last f (y ∷ xs) x = ap (λ l. f y ∷ l) (map-last f xs x)

-- the pools of one pair more
pub next_fresh : (sizes : List (ℕ × ℕ)) (i : ℕ) (pair : ℕ × ℕ) (ps ns : List PartitionView) → slice_get sizes i ≡ Some pair
    → map quota_of ps ≡ map fresh (take i sizes) → map quota_of ns ≡ map quota_of ps ++ fresh pair ∷ []
    → map quota_of ns ≡ map fresh (take (i + 1) sizes)
next_fresh sizes i pair ps ns there before more =
    more ∙ ap (λ l. l ++ fresh pair ∷ []) before ∙ sym (map-last fresh (take i sizes) pair) ∙ ap (map fresh) (sym (take-next sizes i pair there))

possible-last : (sizes : List (ℕ × ℕ)) (pair : ℕ × ℕ) → ArePossible sizes → ArePossibleLengths (pool_size_for_objects 59 8 pair.0 pair.1) → ArePossible (sizes ++ pair ∷ [])
possible-last [] pair all is = (is, tt)
possible-last (x ∷ sizes) pair (first, rest) is = (first, possible-last sizes pair rest is)

pub next_possible : (sizes : List (ℕ × ℕ)) (i : ℕ) (pair : ℕ × ℕ) → slice_get sizes i ≡ Some pair → ArePossible (take i sizes)
    → ArePossibleLengths (pool_size_for_objects 59 8 pair.0 pair.1) → ArePossible (take (i + 1) sizes)
next_possible sizes i pair there all is = subst ArePossible (sym (take-next sizes i pair there)) (possible-last (take i sizes) pair all is)

pub possible_get : (sizes : List (ℕ × ℕ)) (i : ℕ) (pair : ℕ × ℕ) → slice_get sizes i ≡ Some pair → ArePossible sizes
    → ArePossibleLengths (pool_size_for_objects 59 8 pair.0 pair.1)
possible_get [] i pair there all = absurd (none-some pair there)
possible_get (x ∷ sizes) zero pair there (first, rest) = subst (λ (y : ℕ × ℕ). ArePossibleLengths (pool_size_for_objects 59 8 y.0 y.1)) (same_Some x pair there) first
possible_get (x ∷ sizes) (suc i) pair there (first, rest) = possible_get sizes i pair there rest
