-- What is known of the words that a check has passed: the blocks of a chunk so far, one chunk, and chunks one behind another.
use Rattle.std.proofs.Common.{◌≡◌, ℕ, ◌+◌, ◌-◌, ◌%◌, ◌^◌, ◌<◌, ◌≤◌, List, [], ◌∷◌, ◌++◌, arith, refl, sym, ◌∙◌, ap, subst, inl, inr}
use Rattle.std.proofs.lemmas.Bool.{cases_lt}
use Rattle.rlsf_base.specs.declared.memory.range.Range.{Range}
use Rattle.rlsf_base.specs.Range.{end_of}
use Rattle.rlsf_model_sizes.specs.SizeClass.{IsValid, IsValidClass, class_of}
use Rattle.rlsf_base.specs.Space.{Space, bytes_in, range_of, word_at}
use Rattle.rlsf_blocks.proofs.Allocate.Placements.{length-bytes_in}
use Rattle.rlsf_blocks.proofs.Words.Apart.{home_of_free}
use Rattle.rlsf_model.specs.Lists.{IsIn}
use Rattle.rlsf_model.specs.State.{State, Used, between, empty}
use Rattle.rlsf_model.specs.WellFormed.{IsApart, IsChunk, IsUsed, IsWhole, covers, coverage, itself, last_bytes}
use Rattle.rlsf_model.proofs.Coverage.{IsIn-append, IsIn-append_left, IsIn-append_right, coverage-append, coverage-none}
use Rattle.rlsf_model.proofs.Coverage.{covers-before, covers-behind, covers-empty, covers-le, covers-split}
use Rattle.rlsf_model.proofs.Tiling.{IsWellFormed-from, block_of}
use Rattle.rlsf_table.specs.Table.{Table}
use Rattle.rlsf_table.proofs.Tables.RowLengths.{row_length-bounds}
use Rattle.rlsf_blocks.specs.Consistency.Linked.{IsLinked}
use Rattle.rlsf_blocks.specs.Steps.BlockAt.{IsBlockTo, IsExactly}

-- ---- the blocks of a chunk, so far

-- used blocks and free ranges tile the bytes from one address up to another, and the memory has their words
pub record IsPart (fllen sllen : ℕ) (ps : List ℕ) (m : Space) (t : Table) (start stop : ℕ) (us : List Used) (fs : List Range) : Type 0 where
  pub used : (u : Used) → IsIn u us → IsUsed u
  pub free : (f : Range) → IsIn f fs → IsWhole f × (0 < f.len)
  pub within : (f : Range) → IsIn f fs → end_of f ≤ stop
  pub tiled : (a : ℕ) → coverage block_of us a + coverage itself fs a ≡ covers (between start stop) a
  pub used_size : (u : Used) → IsIn u us → word_at m u.block.start ≡ u.block.len + 1
  pub free_size : (f : Range) → IsIn f fs → word_at m f.start ≡ f.len
  pub used_previous : (u : Used) → IsIn u us → word_at m (end_of u.block + 8) ≡ u.block.start
  pub free_previous : (f : Range) → IsIn f fs → word_at m (end_of f + 8) ≡ f.start
  pub apart : IsApart fs
  pub closed : (f : Range) → IsIn f fs → end_of f ≡ stop → word_at m stop % 2 ≡ 1
  pub linked : (f : Range) → IsIn f fs → IsLinked fllen sllen ps m t f

abbrev pub SomePart : ℕ → ℕ → List ℕ → Space → Table → ℕ → ℕ → Type 0
SomePart fllen sllen ps m t start stop = (us : List Used) × (fs : List Range) × IsPart fllen sllen ps m t start stop us fs

-- no block yet
pub SomePart-none : (fllen sllen : ℕ) (ps : List ℕ) (m : Space) (t : Table) (start : ℕ) → SomePart fllen sllen ps m t start start
SomePart-none fllen sllen ps m t start = (
  [],
  [],
  record {
    used = λ u i. absurd i;
    free = λ f i. absurd i;
    within = λ f i. absurd i;
    tiled = λ a. omega (arith, covers-empty (between start start) a (omega arith));
    used_size = λ u i. absurd i;
    free_size = λ f i. absurd i;
    used_previous = λ u i. absurd i;
    free_previous = λ f i. absurd i;
    apart = λ f g i j. absurd i;
    closed = λ f i. absurd i;
    linked = λ f i. absurd i;
  },
)

-- a used block whose alignment is 16
abbrev used_at : Space → ℕ → ℕ → Used
used_at m start stop = record { block = between start stop; payload = start + 16; align = 16; bytes = bytes_in m (between (start + 16) stop) }

is_used : (m : Space) (start stop : ℕ) → m.start ≤ start → stop ≤ end_of (range_of m) → start % 32 ≡ 0 → stop % 32 ≡ 0 → start < stop → IsUsed (used_at m start stop)
is_used m start stop from to whole whole_stop some = record {
  whole = record { start = whole; len = omega (arith, whole, whole_stop) };
  power = refl;
  placed = omega (arith, whole);
  within = omega (arith, whole, whole_stop, some);
  bytes =
      length-bytes_in m (between (start + 16) stop) (omega (arith, from), omega (arith, to, whole, whole_stop, some))
      ∙ let same : stop - (start + 16) ≡ start + (stop - start) - (start + 16) = omega (arith, some) in same;
}

module _ {fllen sllen : ℕ} {ps : List ℕ} {m : Space} {t : Table} where
  module _ (start stop next end : ℕ) (order : start ≤ stop) (from : m.start ≤ stop) (to : end ≤ end_of (range_of m)) (whole : stop % 32 ≡ 0)
      (is : IsBlockTo fllen sllen ps m t stop end next) where
    block_tiles : (a : ℕ) → covers (between start next) a ≡ covers (between start stop) a + covers (between stop next) a
    block_tiles a =
        covers-split start stop next a order (omega (arith, is.some)) (between start next) (between start stop) (between stop next) refl (omega (arith, order, is.some)) refl
        (omega (arith, order)) refl (omega (arith, is.some))

    -- one block more
    pub SomePart-more : SomePart fllen sllen ps m t start stop → SomePart fllen sllen ps m t start next
    SomePart-more (us, fs, p) =
        let len : next ≡ stop + (next - stop) = omega (arith, is.some) in
        let ends : end_of (between stop next) ≡ next = sym len in
        let named : word_at m (end_of (between stop next) + 8) ≡ stop = ap (λ a. word_at m (a + 8)) ends ∙ is.named in
        elim is.kind [
          | inl size ↦ (
            used_at m stop next ∷ us,
            fs,
            record {
              used = λ u. elim [ inl same ↦ subst IsUsed (sym same) (is_used m stop next from (omega (arith, to, is.before_end)) whole is.whole is.some) | inr i ↦ p.used u i ];
              free = p.free;
              within = λ f i. omega (arith, p.within f i, is.some);
              tiled = λ a. omega (arith, p.tiled a, block_tiles a);
              used_size = λ u. elim [ inl same ↦ subst (λ (x : Used). word_at m x.block.start ≡ x.block.len + 1) (sym same) size | inr i ↦ p.used_size u i ];
              free_size = p.free_size;
              used_previous = λ u. elim [ inl same ↦ subst (λ (x : Used). word_at m (end_of x.block + 8) ≡ x.block.start) (sym same) named | inr i ↦ p.used_previous u i ];
              free_previous = p.free_previous;
              apart = p.apart;
              closed = λ f i at. absurd (omega (arith, p.within f i, is.some, at));
              linked = p.linked;
            },
          )
          | inr (size, closed, linked) ↦ (
            us,
            between stop next ∷ fs,
            record {
              used = p.used;
              free = λ f. elim [
                | inl same ↦ subst (λ (x : Range). IsWhole x × (0 < x.len)) (sym same)
                    (record { start = whole; len = omega (arith, whole, is.whole) }, omega (arith, is.some))
                | inr i ↦ p.free f i
              ];
              within = λ f. elim [ inl same ↦ subst (λ (x : Range). end_of x ≤ next) (sym same) (omega (arith, len)) | inr i ↦ omega (arith, p.within f i, is.some) ];
              tiled = λ a. omega (arith, p.tiled a, block_tiles a);
              used_size = p.used_size;
              free_size = λ f. elim [ inl same ↦ subst (λ (x : Range). word_at m x.start ≡ x.len) (sym same) size | inr i ↦ p.free_size f i ];
              used_previous = p.used_previous;
              free_previous = λ f. elim [ inl same ↦ subst (λ (x : Range). word_at m (end_of x + 8) ≡ x.start) (sym same) named | inr i ↦ p.free_previous f i ];
              apart = λ f g. elim [
                | inl same_f ↦ elim [
                  | inl same_g ↦ λ at. omega (arith, ap (λ x. end_of x) same_f, ap (λ (x : Range). x.start) same_g, at, len, is.some)
                  | inr j ↦ λ at. omega (arith, ap (λ x. end_of x) same_f, p.within g j, (p.free g j).1, at, len, is.some)
                ]
                | inr i ↦ elim [
                  | inl same_g ↦ λ at. odd_and_even (word_at m stop) (next - stop) size (p.closed f i (at ∙ ap (λ (x : Range). x.start) same_g)) (omega (arith, whole, is.whole))
                  | inr j ↦ p.apart f g i j
                ]
              ];
              closed = λ f. elim [ inl same ↦ λ at. closed | inr i ↦ λ at. absurd (omega (arith, p.within f i, is.some, at)) ];
              linked = λ f. elim [ inl same ↦ subst (IsLinked fllen sllen ps m t) (sym same) linked | inr i ↦ p.linked f i ];
            },
          )
        ]
      where
        odd_and_even : (word size : ℕ) → word ≡ size → word % 2 ≡ 1 → size % 32 ≡ 0 → ⊥
        odd_and_even word size same odd even = omega (arith, same, odd, even)

-- ---- chunks

-- chunks of a state that lie outside of a range have none of its bytes
none_outside : (range : Range → Range) (cs : List Range) (low high a : ℕ) → ((c : Range) → IsIn c cs → (low ≤ (range c).start) × (end_of (range c) ≤ high))
    → (a < low → coverage range cs a ≡ 0) × (high ≤ a → coverage range cs a ≡ 0)
none_outside range cs low high a inside = grind (arith, coverage-none, covers-before, covers-behind)

-- what holds wherever a check is
pub record IsBase (fllen sllen : ℕ) (m : Space) : Type 0 where
  pub rows : 0 < fllen
  pub row_length : 0 < sllen
  pub addressable : end_of (range_of m) < 2 ^ 64

pub IsBase-valid : (fllen sllen : ℕ) (m : Space) → IsValid 128 128 fllen sllen → end_of (range_of m) < 2 ^ 64 → IsBase fllen sllen m
IsBase-valid fllen sllen m valid addressable =
    record { rows = valid.some_rows; row_length = (row_length-bounds sllen valid.power_of_two).0; addressable = addressable }

abbrev pub SomeChunks : ℕ → ℕ → List ℕ → Space → Table → ℕ → ℕ → Type 0
SomeChunks fllen sllen ps m t start stop = (s : State) × IsExactly fllen sllen ps m t start stop s

module _ {fllen sllen : ℕ} {ps : List ℕ} {m : Space} {t : Table} (g : IsBase fllen sllen m) where
  -- no chunk
  pub SomeChunks-none : (start : ℕ) → SomeChunks fllen sllen ps m t start start
  SomeChunks-none start = (
    empty,
    (grind (arith, IsWellFormed-from)),
  )

  -- the blocks of a chunk and its sentinel
  pub SomeChunks-one : (start stop : ℕ) → m.start ≤ start → stop + 32 ≤ end_of (range_of m) → start % 32 ≡ 0 → stop % 32 ≡ 0 → start < stop
      → IsValidClass fllen (class_of sllen (stop - start))
      → word_at m (start + 8) ≡ 0 → word_at m stop ≡ 35 → SomePart fllen sllen ps m t start stop → SomeChunks fllen sllen ps m t start (stop + 32)
  SomeChunks-one start stop from to whole whole_stop some valid first sentinel (us, fs, p) =
      let c = between start (stop + 32) in
      let is_chunk : IsChunk fllen sllen (range_of m) c = (grind arith) in (
        record { chunks = c ∷ []; used = us; free = fs },
        (
          record {
            well_formed = IsWellFormed-from (record {
              rows = g.rows;
              row_length = g.row_length;
              addressable = g.addressable;
              chunks = λ d. elim [ inl same ↦ subst (IsChunk fllen sllen (range_of m)) (sym same) is_chunk | inr i ↦ absurd i ];
              used = p.used;
              whole = p.free;
              disjoint = λ a. omega (arith, covers-le c a);
              tiled = λ a. omega (
                arith,
                p.tiled a,
                covers-split start stop (stop + 32) a (omega (arith, some)) (omega arith) c (between start stop) (last_bytes c) refl (omega (arith, some)) refl
                    (omega (arith, some)) (sym (omega (arith, some))) (omega (arith, some)),
              );
              apart = p.apart;
            });
            row = λ a low high. (c, inl refl, omega arith, low, high, omega arith);
            sizes = record {
              used = p.used_size;
              free = p.free_size;
              sentinel = λ d. elim [
                | inl same ↦ ap (λ (x : Range). word_at m (end_of x - 32)) same ∙ ap (word_at m) (let at : end_of c - 32 ≡ stop = omega (arith, some) in at) ∙ sentinel
                | inr i ↦ absurd i
              ];
            };
            previous = record {
              used = p.used_previous;
              free = p.free_previous;
              first = λ d. elim [ inl same ↦ ap (λ (x : Range). word_at m (x.start + 8)) same ∙ first | inr i ↦ absurd i ];
            };
            linked = p.linked;
          },
          λ d. elim [
            | inl same ↦ (omega (arith, ap (λ (x : Range). x.start) same), omega (arith, ap (λ x. end_of x) same, some))
            | inr i ↦ absurd i
          ],
        ),
      )

  -- chunks behind others
  pub SomeChunks-append : (start mid stop : ℕ) → start ≤ mid → mid ≤ stop → SomeChunks fllen sllen ps m t start mid → SomeChunks fllen sllen ps m t mid stop
      → SomeChunks fllen sllen ps m t start stop
  SomeChunks-append start mid stop low high (s, (is, inside)) (n, (has, within)) =
      let v = is.well_formed in
      let w = has.well_formed in
      let apart_from : (f : Range) → IsIn f s.free → (h : Range) → IsIn h n.free → end_of f + 32 ≤ h.start =
      λ f i h j. omega (
        arith,
        (home_of_free v f i).to,
        (inside (home_of_free v f i).chunk (home_of_free v f i).is_chunk).1,
        (within (home_of_free w h j).chunk (home_of_free w h j).is_chunk).0,
        (home_of_free w h j).from,
      ) in
      let one : (a : ℕ) → coverage itself (s.chunks ++ n.chunks) a ≤ 1 =
      λ a. elim (cases_lt a mid) [
        | inl before ↦ omega (arith, coverage-append itself s.chunks n.chunks a, v.disjoint a, (none_outside itself n.chunks mid stop a within).0 before)
        | inr behind ↦ omega (arith, coverage-append itself s.chunks n.chunks a, w.disjoint a, (none_outside itself s.chunks start mid a inside).1 behind)
      ] in (
        record { chunks = s.chunks ++ n.chunks; used = s.used ++ n.used; free = s.free ++ n.free },
        (
          record {
            well_formed = IsWellFormed-from (record {
              rows = g.rows;
              row_length = g.row_length;
              addressable = g.addressable;
              chunks = λ c i. elim (IsIn-append c s.chunks n.chunks i) [ inl j ↦ v.chunks c j | inr j ↦ w.chunks c j ];
              used = λ u i. elim (IsIn-append u s.used n.used i) [ inl j ↦ v.used u j | inr j ↦ w.used u j ];
              whole = λ f i. elim (IsIn-append f s.free n.free i) [
                | inl j ↦ ((v.free f j).whole, (v.free f j).some)
                | inr j ↦ ((w.free f j).whole, (w.free f j).some)
              ];
              disjoint = one;
              tiled = λ a. omega (
                arith,
                v.tiled a,
                w.tiled a,
                coverage-append block_of s.used n.used a,
                coverage-append itself s.free n.free a,
                coverage-append last_bytes s.chunks n.chunks a,
                coverage-append itself s.chunks n.chunks a,
              );
              apart = λ f h i j at. elim (IsIn-append f s.free n.free i) [
                | inl k ↦ elim (IsIn-append h s.free n.free j) [ inl l ↦ v.apart f h k l at | inr l ↦ omega (arith, apart_from f k h l, at) ]
                | inr k ↦ elim (IsIn-append h s.free n.free j) [ inl l ↦ omega (arith, apart_from h l f k, (v.free h l).some, at) | inr l ↦ w.apart f h k l at ]
              ];
            });
            row = λ a from to. elim (cases_lt a mid) [
              | inl before ↦
                  let (c, i, c_from, at, past, up_to) = is.row a from (omega (arith, before)) in
                  (c, IsIn-append_left c s.chunks n.chunks i, c_from, at, past, omega (arith, up_to, low, high))
              | inr behind ↦
                  let (c, i, c_from, at, past, up_to) = has.row a behind (omega (arith, to, low, high)) in
                  (c, IsIn-append_right c s.chunks n.chunks i, omega (arith, c_from, low), at, past, omega (arith, up_to, low, high))
            ];
            sizes = record {
              used = λ u i. elim (IsIn-append u s.used n.used i) [ inl j ↦ is.sizes.used u j | inr j ↦ has.sizes.used u j ];
              free = λ f i. elim (IsIn-append f s.free n.free i) [ inl j ↦ is.sizes.free f j | inr j ↦ has.sizes.free f j ];
              sentinel = λ c i. elim (IsIn-append c s.chunks n.chunks i) [ inl j ↦ is.sizes.sentinel c j | inr j ↦ has.sizes.sentinel c j ];
            };
            previous = record {
              used = λ u i. elim (IsIn-append u s.used n.used i) [ inl j ↦ is.previous.used u j | inr j ↦ has.previous.used u j ];
              free = λ f i. elim (IsIn-append f s.free n.free i) [ inl j ↦ is.previous.free f j | inr j ↦ has.previous.free f j ];
              first = λ c i. elim (IsIn-append c s.chunks n.chunks i) [ inl j ↦ is.previous.first c j | inr j ↦ has.previous.first c j ];
            };
            linked = λ f i. elim (IsIn-append f s.free n.free i) [ inl j ↦ is.linked f j | inr j ↦ has.linked f j ];
          },
          λ c i. elim (IsIn-append c s.chunks n.chunks i) [
            | inl j ↦ (omega (arith, (inside c j).0), omega (arith, (inside c j).1, high))
            | inr j ↦ (omega (arith, (within c j).0, low), omega (arith, (within c j).1))
          ],
        ),
      )
