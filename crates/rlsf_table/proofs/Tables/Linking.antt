-- The class table once a block was linked in front of the list of its class, or taken out of it.
use Rattle.std.proofs.Common.{◌≡◌, ◌≢◌, ◌↔◌, ℕ, ◌<◌, ◌≤◌, false, List, [], ◌∷◌, ◌++◌, arith, inl, inr, refl, sym, ◌∙◌, subst}
use Rattle.std.proofs.lemmas.Bool.{false_from_ne_true}
use Rattle.rlsf_model_sizes.specs.SizeClass.{class_of, class_at}
use Rattle.rlsf_base.specs.declared.memory.range.Range.{Range}
use Rattle.rlsf_base.specs.Space.{Space}
use Rattle.rlsf_model.specs.Allocate.{has_class}
use Rattle.rlsf_model.specs.Lists.{IsIn}
use Rattle.rlsf_model.specs.WellFormed.{coverage, itself}
use Rattle.rlsf_model.proofs.Choices.{has_class-from, has_class-true}
use Rattle.rlsf_model.proofs.Coverage.{IsIn-append_right}
use Rattle.rlsf_table.specs.FreeList.{Links}
use Rattle.rlsf_table.specs.Rewrites.{IsLink, CanBeBlock, Rewrites}
use Rattle.rlsf_table.specs.Steps.ClassList.{IsFreeList}
use Rattle.rlsf_table.specs.FreeTable.{IsFreeTable, IsRoom}
use Rattle.rlsf_table.specs.Table.{IsClassAt, IsHeadOf, IsHeadSet, Table, head_at, of_class, HasBits, HasTable}
use Rattle.rlsf_table.proofs.FreeLists.Chains.{first_of, IsIn-removal}
use Rattle.rlsf_table.proofs.FreeLists.Classes.{coverage-of_class, IsIn-of_class, of_class-append, of_class-front_same, of_class-front_other, of_class-amid_same}
use Rattle.rlsf_table.proofs.FreeLists.Classes.{of_class-amid_other}
use Rattle.rlsf_table.proofs.FreeLists.OtherClasses.{class_at-injective, each_class, Links-other_class}
use Rattle.rlsf_table.proofs.Tables.Bits.{HasBits-amid}
use Rattle.rlsf_table.proofs.Words.Writes.{Rewrites-weaken}

-- the free blocks of a class are a list of free blocks
pub IsFreeList-of_class : {fllen sllen : ℕ} {m : Space} {t : Table} {free : List Range} → IsFreeTable fllen sllen m t free → (fl sl : ℕ) → fl < fllen → sl < sllen
    → IsFreeList m (head_at t fl sl) (of_class sllen fl sl free)
IsFreeList-of_class {fllen} {sllen} {m} {t} {free} list fl sl row place = grind (arith, IsIn-of_class, coverage-of_class)

-- and where it begins may be given by an equation
pub IsFreeList-of_class_from : {fllen sllen : ℕ} {m : Space} {t : Table} {free : List Range} → IsFreeTable fllen sllen m t free → (fl sl : ℕ) → fl < fllen → sl < sllen
    → (head : ℕ) → head ≡ head_at t fl sl → IsFreeList m head (of_class sllen fl sl free)
IsFreeList-of_class_from {fllen} {sllen} {m} {t} {free} list fl sl row place head is =
    subst (λ h. IsFreeList m h (of_class sllen fl sl free)) (sym is) (IsFreeList-of_class list fl sl row place)

-- a range whose class is not that at two indices
has_class-other : (sllen fl sl i j : ℕ) (r : Range) → class_of sllen r.len ≡ class_at fl sl → ¬ ((i ≡ fl) × (j ≡ sl)) → has_class sllen (class_at i j) r ≡ false
has_class-other sllen fl sl i j r class other =
    false_from_ne_true (has_class sllen (class_at i j) r) (λ e. other (class_at-injective fl sl i j (sym (has_class-true sllen (class_at i j) r e) ∙ class)))

-- ---- a block in front

module _ {fllen sllen : ℕ} {m : Space} {t : Table} {r : Range} {free : List Range} (fl sl : ℕ) (room : IsRoom fllen sllen m t free r)
    (at : IsClassAt fllen sllen r.len fl sl) where
  -- the block overlaps none of its class
  pub coverage-front_class : (a : ℕ) → coverage itself (r ∷ of_class sllen fl sl free) a ≤ 1
  coverage-front_class a = omega (arith, room.apart a, coverage-of_class sllen fl sl free a)

  -- the blocks of the class are free blocks, and of that class
  among-front : (f : Range) → IsIn f (r ∷ of_class sllen fl sl free) → IsIn f (r ∷ free) × (class_of sllen f.len ≡ class_at fl sl)
  among-front f i = grind (arith, IsIn-of_class, has_class-true)

  placed-front : (f : Range) → IsIn f (r ∷ free) → CanBeBlock m f
  placed-front f i = elim i [ inl e ↦ subst (λ x. CanBeBlock m x) (sym e) room.placed | inr j ↦ room.list.placed f j ]

  -- the links of the class are links of free blocks
  pub Rewrites-front_class : {n : Space} → Rewrites m n (IsLink (r ∷ of_class sllen fl sl free)) → Rewrites m n (IsLink (r ∷ free))
  Rewrites-front_class rewrites = Rewrites-weaken (λ a link. (link.0, (among-front link.0 link.1).0, link.2)) rewrites

  -- the table, once the head of the class is where the block begins
  HasTable-front_start : {n : Space} {u : Table} → IsHeadSet fllen sllen t u fl sl r.start → HasBits fllen sllen u (r ∷ free)
      → Links n 0 (r ∷ of_class sllen fl sl free) r.start
      → Rewrites m n (IsLink (r ∷ of_class sllen fl sl free)) → HasTable fllen sllen n u (r ∷ free)
  HasTable-front_start {n} {u} set bits linked rewrites =
      let spelled : Links n 0 (of_class sllen fl sl (r ∷ free)) r.start =
      subst (λ l. Links n 0 l r.start) (sym (of_class-front_same sllen fl sl r free (has_class-from sllen (class_at fl sl) r at.class))) linked in
      let here : Links n 0 (of_class sllen fl sl (r ∷ free)) (head_at u fl sl) = subst (λ h. Links n 0 (of_class sllen fl sl (r ∷ free)) h) (sym set.set) spelled in
      record {
        bits = bits;
        lists = record {
          rows = set.rows;
          places = set.places;
          links = each_class (λ i j. i < fllen → j < sllen → Links n 0 (of_class sllen i j (r ∷ free)) (head_at u i j)) fl sl (λ row place. here) elsewhere;
        };
      }
    where
      elsewhere : (i j : ℕ) → ¬ ((i ≡ fl) × (j ≡ sl)) → i < fllen → j < sllen → Links n 0 (of_class sllen i j (r ∷ free)) (head_at u i j)
      elsewhere i j other row place =
          let kept =
          Links-other_class sllen fl sl (r ∷ free) (r ∷ of_class sllen fl sl free) placed-front room.apart among-front rewrites i j other free (λ f k. inr k)
          (head_at t i j)
          (room.list.table.lists.links i j row place) in
          let same : Links n 0 (of_class sllen i j free) (head_at u i j) = subst (λ h. Links n 0 (of_class sllen i j free) h) (sym (set.others i j row place other)) kept in
          subst (λ l. Links n 0 l (head_at u i j)) (sym (of_class-front_other sllen i j r free (has_class-other sllen fl sl i j r at.class other))) same

  -- and where the block's address is given by an equation
  pub HasTable-front : {n : Space} {u : Table} (block : ℕ) → r.start ≡ block → IsHeadSet fllen sllen t u fl sl block → HasBits fllen sllen u (r ∷ free)
      → Links n 0 (r ∷ of_class sllen fl sl free) block → Rewrites m n (IsLink (r ∷ of_class sllen fl sl free)) → HasTable fllen sllen n u (r ∷ free)
  HasTable-front {n} {u} block start set bits linked rewrites =
      HasTable-front_start (subst (IsHeadSet fllen sllen t u fl sl) (sym start) set) bits (subst (Links n 0 (r ∷ of_class sllen fl sl free)) (sym start) linked) rewrites

-- ---- a block taken out

-- a list of blocks begins at 0 exactly if it is empty
head-zero : (m : Space) (p : ℕ) (free : List Range) (head : ℕ) → ((f : Range) → IsIn f free → 0 < f.start) → Links m p free head → (head ≡ 0) ↔ (free ≡ [])
head-zero m p [] head some links = ((λ zero. refl), (λ none. links))
head-zero m p (f ∷ fs) head some links = ((λ zero. absurd (omega (arith, links.0, some f (inl refl)))), (λ none. absurd (cc)))

module _ {fllen sllen : ℕ} {m : Space} {t : Table} (before : List Range) (r : Range) (after : List Range) (fl sl : ℕ)
    (list : IsFreeTable fllen sllen m t (before ++ (r ∷ after)))
    (at : IsClassAt fllen sllen r.len fl sl) where
  -- the list of the class, with the block in its midst
  spelled : of_class sllen fl sl (before ++ (r ∷ after)) ≡ of_class sllen fl sl before ++ (r ∷ of_class sllen fl sl after)
  spelled = of_class-amid_same sllen fl sl before r after (has_class-from sllen (class_at fl sl) r at.class)

  -- the list that the block is taken out of
  pub IsFreeList-amid : IsFreeList m (head_at t fl sl) (of_class sllen fl sl before ++ (r ∷ of_class sllen fl sl after))
  IsFreeList-amid = subst (IsFreeList m (head_at t fl sl)) spelled (IsFreeList-of_class list fl sl at.row at.place)

  -- its blocks are free blocks, and of that class
  among-amid : (f : Range) → IsIn f (of_class sllen fl sl before ++ (r ∷ of_class sllen fl sl after))
      → IsIn f (before ++ (r ∷ after)) × (class_of sllen f.len ≡ class_at fl sl)
  among-amid f i =
      let is = IsIn-of_class sllen fl sl f (before ++ (r ∷ after)) (subst (IsIn f) (sym spelled) i) in
      (is.0, has_class-true sllen (class_at fl sl) f is.1)

  -- the links of the class are links of free blocks
  pub Rewrites-amid_class : {n : Space} → Rewrites m n (IsLink (of_class sllen fl sl before ++ (r ∷ of_class sllen fl sl after)))
      → Rewrites m n (IsLink (before ++ (r ∷ after)))
  Rewrites-amid_class rewrites = Rewrites-weaken (λ a link. (link.0, (among-amid link.0 link.1).0, link.2)) rewrites

  module _ {n : Space} (head : ℕ) (linked : Links n 0 (of_class sllen fl sl before ++ of_class sllen fl sl after) head)
      (rewrites : Rewrites m n (IsLink (of_class sllen fl sl before ++ (r ∷ of_class sllen fl sl after)))) where
    -- the list without it
    left : Links n 0 (of_class sllen fl sl (before ++ after)) head
    left = subst (λ l. Links n 0 l head) (sym (of_class-append sllen fl sl before after)) linked

    -- whether the head shows that a block is left
    pub IsHeadOf-removal : IsHeadOf sllen fl sl head (before ++ after)
    IsHeadOf-removal =
        head-zero n 0 (of_class sllen fl sl (before ++ after)) head
        (λ f i. (list.placed f (IsIn-removal before r after f (IsIn-of_class sllen fl sl f (before ++ after) i).0)).some) left

    -- its head is set
    pub HasTable-removal : {u : Table} → IsHeadSet fllen sllen t u fl sl head → HasBits fllen sllen u (before ++ after) → HasTable fllen sllen n u (before ++ after)
    HasTable-removal {u} set bits =
        let here : Links n 0 (of_class sllen fl sl (before ++ after)) (head_at u fl sl) = subst (λ h. Links n 0 (of_class sllen fl sl (before ++ after)) h) (sym set.set) left in
        record {
          bits = bits;
          lists = record {
            rows = set.rows;
            places = set.places;
            links = each_class (λ i j. i < fllen → j < sllen → Links n 0 (of_class sllen i j (before ++ after)) (head_at u i j)) fl sl (λ row place. here) elsewhere;
          };
        }
      where
        elsewhere : (i j : ℕ) → ¬ ((i ≡ fl) × (j ≡ sl)) → i < fllen → j < sllen → Links n 0 (of_class sllen i j (before ++ after)) (head_at u i j)
        elsewhere i j other row place =
            let old : Links m 0 (of_class sllen i j (before ++ after)) (head_at t i j) =
            subst (λ l. Links m 0 l (head_at t i j)) (of_class-amid_other sllen i j before r after (has_class-other sllen fl sl i j r at.class other))
            (list.table.lists.links i j row place) in
            let kept =
            Links-other_class sllen fl sl (before ++ (r ∷ after)) (of_class sllen fl sl before ++ (r ∷ of_class sllen fl sl after)) list.placed list.apart among-amid
            rewrites
            i j other (before ++ after) (IsIn-removal before r after) (head_at t i j) old in
            subst (λ h. Links n 0 (of_class sllen i j (before ++ after)) h) (sym (set.others i j row place other)) kept

    -- or the block was not the newest one, and the table stays
    pub HasTable-removal_behind : head ≡ head_at t fl sl → HasTable fllen sllen n t (before ++ after)
    HasTable-removal_behind same =
        let lists = list.table.lists in
        let set : IsHeadSet fllen sllen t t fl sl head = record { rows = lists.rows; places = lists.places; set = sym same; others = λ i j row place other. refl } in
        let some : head ≢ 0 = λ zero.
        let none =
        (head-zero m 0 (of_class sllen fl sl before ++ (r ∷ of_class sllen fl sl after)) (head_at t fl sl) (λ f i. (IsFreeList-amid.placed f i).some)
        IsFreeList-amid.links).0 (sym same ∙ zero) in
        subst (IsIn r) none (IsIn-append_right r (of_class sllen fl sl before) (r ∷ of_class sllen fl sl after) (inl refl)) in
        let g = first_of n 0 (of_class sllen fl sl (before ++ after)) head left some in
        let is = IsIn-of_class sllen fl sl g.0 (before ++ after) g.1 in
        HasTable-removal set (HasBits-amid before r after g.0 is.0 (has_class-true sllen (class_at fl sl) g.0 is.1 ∙ sym at.class) list.table.bits)
