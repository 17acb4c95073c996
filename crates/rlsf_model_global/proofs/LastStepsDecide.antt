-- What lives at an address is what the last step that names it left.
use Rattle.std.proofs.Common.{◌≡◌, ◌⊎◌, ℕ, Bool, List, [], ◌∷◌, None, Ok, Err, arith, lit<, refl, sym, ◌∙◌, ap, subst, inl, inr}
use Rattle.std.proofs.lemmas.Bool.{cases_eq}
use Rattle.std.proofs.lemmas.Option.{none-some}
use Rattle.rlsf_base.specs.Addr.{at}
use Rattle.rlsf_base.specs.declared.memory.range.Range.{Range}
use Rattle.rlsf_model.proofs.FlexSteps.{flex_empty_is_well_formed}
use Rattle.rlsf_model_global.specs.Cursor.{first_page, page_cursor, terms_of}
use Rattle.rlsf_model_global.specs.Heap.{Heap, beginning, layout_at}
use Rattle.rlsf_model_global.specs.History.{IsPlacedAt, IsHistory, Names, NoneNames, Step, allocate, deallocate, deallocate_as, reallocate, reallocate_as, reallocate_there}
use Rattle.rlsf_model_global.specs.History.{read, usable, write}
use Rattle.rlsf_model_global.specs.Isolation.{BeginningIsHeap, HistoriesListPayloads, IsLeftBy, PayloadsAreIsolated}
use Rattle.rlsf_model_global.specs.Standing.{IsHeap}
use Rattle.rlsf_model_global.specs.Steps.{Placed}
use Rattle.rlsf_model_global.proofs.Cursors.{first_cursor}
use Rattle.rlsf_model_global.proofs.Histories.{histories_keep_heap, steps_keep_heap, unnamed_stays_throughout}
use Rattle.rlsf_model_global.proofs.Maps.{Lists-none}

pub beginning_is_heap : BeginningIsHeap
beginning_is_heap space grows addressable = record {
  flex = flex_empty_is_well_formed 64 64 space (terms_of (page_cursor space (first_page space) grows)) (lit< tt) (lit< tt) addressable (omega arith, omega arith);
  owed = record { cursor = first_cursor space grows addressable; start = λ r i. absurd i; end = λ r i. absurd i; aligned = λ r i. absurd i; disjoint = λ a. omega arith };
  sorted = tt;
  lists = Lists-none (beginning space grows).flex refl;
}

pub histories_list_payloads : HistoriesListPayloads
histories_list_payloads space grows steps end addressable run =
    let w = histories_keep_heap space (beginning space grows) end steps (beginning_is_heap space grows addressable) run in
    (w.sorted, w.lists)

-- ---- whether a step names an address

gives_or : (result : Placed) (a : ℕ) → IsPlacedAt result a ⊎ (IsPlacedAt result a → ⊥)
gives_or (Ok to) a = cases_eq (at to) a
gives_or (Err e) a = inr (λ bad. bad)

called_or : (addr : ℕ) (result : Placed) (a : ℕ) → ((addr ≡ a) ⊎ IsPlacedAt result a) ⊎ ((addr ≡ a) ⊎ IsPlacedAt result a → ⊥)
called_or addr result a = elim (cases_eq addr a) [
  | inl same ↦ inl (inl same)
  | inr off ↦ elim (gives_or result a) [
    | inl gives ↦ inl (inr gives)
    | inr not ↦ inr (λ named. elim named [ inl same ↦ off same | inr gives ↦ not gives ])
  ]
]

names_or : (s : Step) (a : ℕ) → Names s a ⊎ (Names s a → ⊥)
names_or (allocate layout result) a = gives_or result a
names_or (deallocate addr result) a = cases_eq addr a
names_or (deallocate_as addr layout result) a = cases_eq addr a
names_or (reallocate_as enabled addr layout n result) a = called_or addr result a
names_or (reallocate addr wanted result) a = called_or addr result a
names_or (reallocate_there addr layout n result) a = called_or addr result a
names_or (read addr offset lent result left) a = cases_eq addr a
names_or (write addr offset bytes result) a = cases_eq addr a
names_or (usable addr result) a = cases_eq addr a

-- ---- the last step that names it

-- none names it, or there is a last one
last_or : (memory : Range) (h g : Heap) (steps : List Step) (a : ℕ) → IsHeap memory h → IsHistory h steps g → NoneNames steps a ⊎ IsLeftBy h steps g a
last_or memory h g [] a w run = inl (λ s i. absurd i)
last_or memory h g (s ∷ steps) a w (m, step, rest) = elim (last_or memory m g steps a next rest) [
  | inr later ↦ inr (record {
    before = s ∷ later.before;
    step = later.step;
    after = later.after;
    parts = ap (λ l. s ∷ l) later.parts;
    from = later.from;
    left = later.left;
    earlier = (m, step, later.earlier);
    leads = later.leads;
    later = later.later;
    names = later.names;
    last = later.last;
    same = later.same;
  })
  | inl none ↦ elim (names_or s a) [
    | inl named ↦ inr (record {
      before = [];
      step = s;
      after = steps;
      parts = refl;
      from = h;
      left = m;
      earlier = refl;
      leads = step;
      later = rest;
      names = named;
      last = none;
      same = unnamed_stays_throughout memory m g steps a next rest none;
    })
    | inr off ↦ inl (λ x. elim [ inl same ↦ (λ named. off (subst (λ y. Names y a) same named)) | inr i ↦ none x i ])
  ]
]
  where
    next : IsHeap memory m
    next = steps_keep_heap memory h m s w step

-- nothing lives in the beginning
nothing_at : (space : Range) (grows : Bool) (a : ℕ) → layout_at (beginning space grows) a ≡ None
unfolding layout_at
nothing_at space grows a = refl

pub payloads_are_isolated : PayloadsAreIsolated
payloads_are_isolated space grows steps end a layout addressable run lives =
    let w = beginning_is_heap space grows addressable in
    elim (last_or space (beginning space grows) end steps a w run) [
      | inl none ↦ absurd (none-some layout
          (sym (nothing_at space grows a) ∙ sym (unnamed_stays_throughout space (beginning space grows) end steps a w run none).layout ∙ lives))
      | inr left ↦ left
    ]
