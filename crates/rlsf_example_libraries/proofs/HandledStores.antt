-- A store with a handle for each list of bytes.
use Rattle.std.proofs.Common.{◌≡◌, ℕ, ◌+◌, ◌≤◌, List, [], ◌∷◌, ◌++◌, length, Option, None, Some, IsSomeAnd, map, nat_eq, arith}
use Rattle.std.proofs.Common.{refl, sym, ap, subst, ◌∙◌}
use Rattle.std.proofs.Math.Path.{ap₂}
use Rattle.std.proofs.lemmas.List.{length-map, map-append}
use Rattle.std.proofs.lemmas.Simd.{map-map}
use Rattle.std.specs.Map.{lookup, remove_entry, set_value, values_of}
use Rattle.std.specs.Option.{option_map}
use Rattle.rlsf_base.specs.declared.memory.range.Range.{Range}
use Rattle.rlsf_base.specs.Range.{range_at}
use Rattle.rlsf_base.specs.Space.{SamePlace, Space, range_of}
use Rattle.std.specs.List.{AllByRecursion}
use Rattle.rlsf_example_libraries.specs.Budgets.{HasBudgetFor, HasBudgetOf}
use Rattle.rlsf_example_libraries.specs.Handled.{HandleRows, IsHandled, handled, handled_by, lists_in, place_at, places_in}
use Rattle.rlsf_example_libraries.specs.Stored.{HasAmong, KeepsAt, HasSame, Place, StoreContents, bytes_at_place, lists_at}
use Rattle.rlsf_example_libraries.specs.declared.handles.Spot.{Spot}
use Rattle.rlsf_example_libraries.proofs.Entries.{IsFound, found, lookup-map_values, map_values-same, remove_entry-map_values, set_value-middle}
use Rattle.rlsf_example_libraries.proofs.Places.{HasSame-given_back, length-bytes_at_place}
use Rattle.rlsf_example_libraries.proofs.Rooms.{HasBudgetFor-lists}

-- a memory stays at its place through two changes
pub SamePlace-then : (l m n : Space) → SamePlace l m → SamePlace m n → SamePlace l n
SamePlace-then _ _ _ one two = (two.0 ∙ one.0, two.1 ∙ one.1, two.2 ∙ one.2, λ none. two.3 (one.3 none))

-- ---- what callers see

-- the bytes where a spot says
abbrev here : StoreContents → ℕ → Spot → List ℕ
here v align s = bytes_at_place v.heap.memory (place_at align s)

-- where all have the same bytes, callers see the same
lists_in-same : (v w : StoreContents) (align : ℕ) (rows : List (ℕ × Spot)) → lists_at w (places_in align rows) ≡ lists_at v (places_in align rows)
    → lists_in w align rows ≡ lists_in v align rows
lists_in-same v w align rows same =
    map_values-same (here w align) (here v align) rows (sym (map-map (bytes_at_place w.heap.memory) (place_at align) (values_of rows)) ∙ same
    ∙ map-map (bytes_at_place v.heap.memory) (place_at align) (values_of rows))

-- as many lists as places
pub length-lists_in : (v : StoreContents) (align : ℕ) (rows : List (ℕ × Spot)) → length (places_in align rows) ≡ length (lists_in v align rows)
length-lists_in v align rows = length-map (values_of rows) (place_at align) ∙ length-map rows (λ e. e.1) ∙ sym (length-map rows (λ e. (e.0, here v align e.1)))

-- no lists, nothing stored
pub none_stored : (v : StoreContents) (align : ℕ) (rows : List (ℕ × Spot)) → IsHandled v align rows → lists_in v align rows ≡ [] → KeepsAt v []
none_stored v align [] kept none = kept
none_stored v align (e ∷ es) kept none = cc

-- a budget of lists is one of their store
short_lists : (v : StoreContents) (align size : ℕ) (rows : List (ℕ × Spot)) → AllByRecursion (λ (e : ℕ × List ℕ). length e.1 ≤ size) (lists_in v align rows)
    → AllByRecursion (λ (b : List ℕ). length b ≤ size) (lists_at v (places_in align rows))
short_lists v align size [] short = tt
short_lists v align size (e ∷ es) (first, rest) = (first, short_lists v align size es rest)

one_alignment : (align : ℕ) (rows : List (ℕ × Spot)) → AllByRecursion (λ (p : Place). p.align ≡ align) (places_in align rows)
one_alignment align [] = tt
one_alignment align (e ∷ es) = (refl, one_alignment align es)

pub HasBudgetFor-handled : (v : StoreContents) (align : ℕ) (h : HandleRows) (live size : ℕ) → IsHandled v align h.rows → HasBudgetOf (handled_by v align h) live size
    → HasBudgetFor v (places_in align h.rows) live size align
HasBudgetFor-handled v align h live size kept budget =
    HasBudgetFor-lists kept (omega (arith, budget.few, length-lists_in v align h.rows)) budget.layout (short_lists v align size h.rows budget.small)
    (one_alignment align h.rows) budget.bytes

-- no spot, no bytes
pub absent : (v : StoreContents) (align : ℕ) (rows : List (ℕ × Spot)) (n : ℕ) → lookup (nat_eq n) rows ≡ None → lookup (nat_eq n) (lists_in v align rows) ≡ None
absent v align rows n none = lookup-map_values (here v align) (nat_eq n) rows ∙ ap (option_map (here v align)) none

-- the places of rows one after the other
places_in-append : (align : ℕ) (before after : List (ℕ × Spot)) → places_in align (before ++ after) ≡ places_in align before ++ places_in align after
places_in-append align before after = ap (map (place_at align)) (map-append (λ e. e.1) before after) ∙ map-append (place_at align) (values_of before) (values_of after)

-- a store that keeps other lists under other rows, at the same place, and what callers see of it
abbrev pub Shows : StoreContents → ℕ → List (ℕ × List ℕ) → ℕ → StoreContents → HandleRows → Type 0
Shows v align lists next w g = IsHandled w align g.rows × (handled_by w align g ≡ handled lists next align (range_of v.heap.memory) w.heap.state)

shows : (v : StoreContents) {w : StoreContents} {align : ℕ} {g : HandleRows} {rows : List (ℕ × Spot)} {lists : List (ℕ × List ℕ)} {next : ℕ}
    → SamePlace v.heap.memory w.heap.memory → g.rows ≡ rows → g.next ≡ next
    → IsHandled w align rows → lists_in w align rows ≡ lists → Shows v align lists next w g
shows v {w} {align} {g} {rows} {lists} {next} place same count kept are = (
  subst (IsHandled w align) (sym same) kept,
  ap₂ (λ (l : List (ℕ × List ℕ)) (m : Range). handled l g.next align m w.heap.state) (ap (lists_in w align) same ∙ are) (ap₂ range_at place.0 place.1)
      ∙ ap (λ n. handled lists n align (range_of v.heap.memory) w.heap.state) count,
)

-- one row among others whose bytes are as they were
shows_among : (v : StoreContents) {w : StoreContents} {align : ℕ} {g : HandleRows} (before after : List (ℕ × Spot)) (n : ℕ) (s : Spot) {bytes : List ℕ} {next : ℕ}
    → SamePlace v.heap.memory w.heap.memory
    → g.rows ≡ before ++ (n, s) ∷ after → g.next ≡ next → HasAmong v w (places_in align before) (places_in align after) (place_at align s) bytes
    → Shows v align (lists_in v align before ++ (n, bytes) ∷ lists_in v align after) next w g
shows_among v {w} {align} {g} before after n s {bytes} place rows next m =
    shows v {g = g} place rows next (subst (KeepsAt w) (sym (places_in-append align before ((n, s) ∷ after))) m.places)
    (map-append (λ e. (e.0, here w align e.1)) before ((n, s) ∷ after)
    ∙ ap₂ (λ l r. l ++ r) (lists_in-same v w align before m.front) (ap₂ (λ x r. (n, x) ∷ r) m.here (lists_in-same v w align after m.back)))

-- ---- what is stored at a handle

-- what is stored at a handle, and what follows where it changes or is removed
pub record IsAt (v : StoreContents) (align : ℕ) (h : HandleRows) (n : ℕ) (s : Spot) : Type 0 where
  pub before : List Place
  pub after : List Place
  pub has : KeepsAt v (before ++ place_at align s ∷ after)
  pub len : length (bytes_at_place v.heap.memory (place_at align s)) ≡ s.len
  pub bytes : lookup (nat_eq n) (lists_in v align h.rows) ≡ Some (bytes_at_place v.heap.memory (place_at align s))
  pub removed : (w : StoreContents) (g : HandleRows) → SamePlace v.heap.memory w.heap.memory → HasSame v w (before ++ after) → g.rows ≡ remove_entry (nat_eq n) h.rows
      → g.next ≡ h.next
      → Shows v align (remove_entry (nat_eq n) (lists_in v align h.rows)) h.next w g
  pub changed : (w : StoreContents) (g : HandleRows) → SamePlace v.heap.memory w.heap.memory → (now : Spot) (bytes : List ℕ)
      → HasAmong v w before after (place_at align now) bytes
      → g.rows ≡ set_value (nat_eq n) h.rows now → g.next ≡ h.next → Shows v align (set_value (nat_eq n) (lists_in v align h.rows) bytes) h.next w g

module _ {v : StoreContents} {align : ℕ} (h : HandleRows) (kept : IsHandled v align h.rows) where
  -- the same rows, with the same bytes, in another store
  pub same_items : (w : StoreContents) (g : HandleRows) → SamePlace v.heap.memory w.heap.memory → HasSame v w (places_in align h.rows) → g.rows ≡ h.rows
      → g.next ≡ h.next → Shows v align (lists_in v align h.rows) h.next w g
  same_items w g place same rows next = shows v {g = g} place rows next same.0 (lists_in-same v w align h.rows same.1)

  -- the same, once a list was added and removed
  pub same_given_back : (u w : StoreContents) (g : HandleRows) {p : Place} {bytes : List ℕ} → SamePlace v.heap.memory u.heap.memory → SamePlace u.heap.memory w.heap.memory
      → HasAmong v u (places_in align h.rows) [] p bytes → HasSame u w (places_in align h.rows ++ []) → g.rows ≡ h.rows → g.next ≡ h.next
      → Shows v align (lists_in v align h.rows) h.next w g
  same_given_back u w g first then added left =
      same_items w g (SamePlace-then v.heap.memory u.heap.memory w.heap.memory first then) (HasSame-given_back (places_in align h.rows) added left)

  -- a handle with its spot is stored there
  pub stored_at : (n : ℕ) (s : Spot) → lookup (nat_eq n) h.rows ≡ Some s → IsAt v align h n s
  stored_at n s is =
      let test = nat_eq n in
      let f : IsFound test h.rows s = found test h.rows s is in
      let before = places_in align f.before in
      let after = places_in align f.after in
      let whole : places_in align h.rows ≡ before ++ place_at align s ∷ after = ap (places_in align) f.whole ∙ places_in-append align f.before ((f.key, s) ∷ f.after) in
      let less : places_in align (remove_entry test h.rows) ≡ before ++ after = ap (places_in align) f.less ∙ places_in-append align f.before f.after in
      let has = subst (KeepsAt v) whole kept in
      record {
        before = before;
        after = after;
        has = has;
        len = length-bytes_at_place before after (place_at align s) has;
        bytes = lookup-map_values (here v align) test h.rows ∙ ap (option_map (here v align)) is;
        removed = λ w g place left rows next.
            let now = subst (HasSame v w) (sym less) left in
            shows v {g = g} place rows next now.0 (lists_in-same v w align (remove_entry test h.rows) now.1 ∙ sym (remove_entry-map_values (here v align) test h.rows));
        changed = λ w g place now bytes among rows next.
            let entries : lists_in v align f.before ++ (f.key, bytes) ∷ lists_in v align f.after ≡ set_value test (lists_in v align h.rows) bytes =
            sym (set_value-middle (here v align) test f.before f.after f.key s bytes f.others f.passes) ∙ ap (λ es. set_value test (lists_in v align es) bytes) (sym f.whole) in
            subst (λ lists. Shows v align lists h.next w g) entries (shows_among v {g = g} f.before f.after f.key now place (rows ∙ f.changed now) next among);
      }

  -- one more under a new handle
  pub one_more : (w : StoreContents) (g : HandleRows) → SamePlace v.heap.memory w.heap.memory → (n : ℕ) (s : Spot) (bytes : List ℕ)
      → HasAmong v w (places_in align h.rows) [] (place_at align s) bytes
      → g.rows ≡ h.rows ++ (n, s) ∷ [] → g.next ≡ n + 1 → Shows v align (lists_in v align h.rows ++ (n, bytes) ∷ []) (n + 1) w g
  one_more w g place n s bytes among rows next = shows_among v {g = g} h.rows [] n s place rows next among

-- ---- facts of what is there

pub IsSomeAnd-is : {A : Type 0} (o : Option A) (x : A) (P : A → Type 0) → o ≡ Some x → P x → IsSomeAnd o P
IsSomeAnd-is o x P is p = subst (λ y. IsSomeAnd y P) (sym is) p
