-- A queue's messages, as its entries and its store have them.
use Rattle.std.proofs.Common.{◌≡◌, ℕ, ◌-◌, ◌<◌, ◌≤◌, List, [], ◌∷◌, ◌++◌, length, map, drop, slice_index_or, Option, None, Some, IsSomeAnd}
use Rattle.std.proofs.Common.{arith, inl, inr, refl, sym, ◌∙◌, ap, subst}
use Rattle.std.proofs.Math.Path.{ap₂}
use Rattle.std.proofs.lemmas.Bool.{cases_lt}
use Rattle.std.proofs.lemmas.List.{length-map, map-append}
use Rattle.std.specs.List.{AllByRecursion}
use Rattle.rlsf_base.specs.declared.memory.range.Range.{Range}
use Rattle.rlsf_base.specs.Space.{Space, range_of}
use Rattle.rlsf_example_libraries.specs.Budgets.{HasBudgetFor}
use Rattle.rlsf_example_libraries.specs.declared.messages.Entry.{Entry}
use Rattle.rlsf_example_libraries.specs.Queue.{KeepsLongest, messages_in, place_of_entry}
use Rattle.rlsf_example_libraries.specs.Stored.{HasAmong, KeepsAt, Place, StoreContents, bytes_at_place, lists_at}
use Rattle.rlsf_example_libraries.proofs.Places.{length-bytes_at_place}
use Rattle.rlsf_example_libraries.proofs.Rooms.{bytes_for-fits}

-- there are as many messages as entries
pub length-messages : (m : Space) (entries : List Entry) → length (messages_in m entries) ≡ length entries
length-messages m entries = length-map (map place_of_entry entries) (bytes_at_place m) ∙ length-map entries place_of_entry

-- without a message nothing is stored
pub nothing_stored : (v : StoreContents) (entries : List Entry) → KeepsAt v (map place_of_entry entries) → messages_in v.heap.memory entries ≡ [] → KeepsAt v []
nothing_stored v [] has none = has
nothing_stored v (e ∷ es) has none = cc

-- one more message is stored, at one more entry
pub pushed : (v w : StoreContents) (entries : List Entry) (e : Entry) (bytes : List ℕ) → HasAmong v w (map place_of_entry entries) [] (place_of_entry e) bytes
    → KeepsAt w (map place_of_entry (entries ++ e ∷ [])) × (messages_in w.heap.memory (entries ++ e ∷ []) ≡ messages_in v.heap.memory entries ++ bytes ∷ [])
pushed v w entries e bytes added =
    let places = map-append place_of_entry entries (e ∷ []) in (
      subst (KeepsAt w) (sym places) added.places,
      ap (lists_at w) places ∙ map-append (bytes_at_place w.heap.memory) (map place_of_entry entries) (place_of_entry e ∷ [])
          ∙ ap₂ (λ l b. l ++ b ∷ []) added.front added.here,
    )

-- what is stored at a first entry is the oldest message
pub record Oldest (v : StoreContents) (entries : List Entry) (e : Entry) : Type 0 where
  pub places : KeepsAt v (place_of_entry e ∷ map place_of_entry (drop 1 entries))
  pub messages : messages_in v.heap.memory entries ≡ bytes_at_place v.heap.memory (place_of_entry e) ∷ messages_in v.heap.memory (drop 1 entries)
  pub len : length (bytes_at_place v.heap.memory (place_of_entry e)) ≡ e.len

pub oldest_stored : (v : StoreContents) (entries : List Entry) (e : Entry) → KeepsAt v (map place_of_entry entries) → 0 < length entries → e ≡ slice_index_or entries 0 e
    → Oldest v entries e
oldest_stored v [] e has some first = absurd (omega arith)
oldest_stored v (x ∷ xs) e has some first =
    let places = subst (λ y. KeepsAt v (place_of_entry y ∷ map place_of_entry xs)) (sym first) has in
    record {
      places = places;
      messages = ap (λ y. messages_in v.heap.memory (y ∷ xs)) (sym first);
      len = length-bytes_at_place [] (map place_of_entry xs)
          (place_of_entry e) places;
    }

-- ---- a longest length

AllByRecursion-more : (P : Entry → Type 0) (es : List Entry) (e : Entry) → P e → AllByRecursion P es → AllByRecursion P (es ++ e ∷ [])
AllByRecursion-more P [] e last all = (last, tt)
AllByRecursion-more P (x ∷ xs) e last (first, rest) = (first, AllByRecursion-more P xs e last rest)

-- one more entry that isn't longer
pub KeepsLongest-more : (longest : Option ℕ) (memory : Range) (capacity : ℕ) (es : List Entry) (e : Entry) → (IsSomeAnd longest (λ n. n < e.len) → ⊥)
    → KeepsLongest longest memory capacity es
    → KeepsLongest longest memory capacity (es ++ e ∷ [])
KeepsLongest-more None memory capacity es e short keeps = tt
KeepsLongest-more (Some n) memory capacity es e short (all, fits) =
    let within : e.len ≤ n = elim (cases_lt n e.len) [ inl longer ↦ absurd (short longer) | inr fine ↦ fine ] in
    (AllByRecursion-more (λ x. x.len ≤ n) es e within all, fits)

-- and one less
pub KeepsLongest-less : (longest : Option ℕ) (memory : Range) (capacity : ℕ) (es : List Entry) → KeepsLongest longest memory capacity es
    → KeepsLongest longest memory capacity (drop 1 es)
KeepsLongest-less None memory capacity es keeps = tt
KeepsLongest-less (Some n) memory capacity [] keeps = keeps
KeepsLongest-less (Some n) memory capacity (e ∷ es) ((first, rest), fits) = (rest, fits)

small_entries : (n : ℕ) (es : List Entry) → AllByRecursion (λ e. e.len ≤ n) es → AllByRecursion (λ (p : Place). (p.len ≤ n) × (p.align ≡ 1)) (map place_of_entry es)
small_entries n [] all = tt
small_entries n (e ∷ es) (first, rest) = ((first, refl), small_entries n es rest)

-- a queue that isn't full has the budget for a message that isn't too long
pub budget_for_message : (longest : Option ℕ) (v : StoreContents) (es : List Entry) (capacity len : ℕ) → KeepsAt v (map place_of_entry es)
    → KeepsLongest longest (range_of v.heap.memory) capacity es → length es < capacity
    → IsSomeAnd longest (λ n. len ≤ n) → (n : ℕ) × HasBudgetFor v (map place_of_entry es) (capacity - 1) n 1 × (len ≤ n)
budget_for_message None v es capacity len has keeps few short = absurd short
budget_for_message (Some n) v es capacity len has (all, fits) few short = (
  n,
  record {
    has = has;
    few = omega (arith, few, length-map es place_of_entry);
    layout = fits.0;
    small = small_entries n es all;
    bytes = bytes_for-fits (range_of v.heap.memory) (capacity - 1) n 1 fits;
  },
  short,
)

-- no message is longer than a slice that has the longest length
pub oldest_within : (longest : Option ℕ) (memory : Range) (capacity len : ℕ) (es : List Entry) (e : Entry) → KeepsLongest longest memory capacity es → 0 < length es
    → e ≡ slice_index_or es 0 e
    → IsSomeAnd longest (λ n. n ≤ len) → e.len ≤ len
oldest_within None memory capacity len es e keeps some first within = absurd within
oldest_within (Some n) memory capacity len [] e keeps some first within = absurd (omega arith)
oldest_within (Some n) memory capacity len (x ∷ xs) e ((here, _), _) some first within = omega (arith, here, within, ap (λ y. y.len) first)

-- the same of equal parts
pub KeepsLongest-same : (longest : Option ℕ) {m n : Range} {c d : ℕ} {es fs : List Entry} → m ≡ n → c ≡ d → es ≡ fs → KeepsLongest longest m c es
    → KeepsLongest longest n d fs
KeepsLongest-same longest {m} {n} {c} {d} {es} {fs} memory capacity entries keeps =
    subst (λ r. KeepsLongest longest r d fs) memory (subst (λ k. KeepsLongest longest m k fs) capacity (subst (KeepsLongest longest m c) entries keeps))
