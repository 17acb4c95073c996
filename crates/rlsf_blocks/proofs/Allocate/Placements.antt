-- A used block is made of the front of the free block that is the choice for a layout.
use Rattle.rlsf_base.proofs.Lending.Present.{own-there, own-inside}
use Rattle.rlsf_base.specs.OpenSpace.{IsWritable, out_with}
use Rattle.rlsf_base.specs.Space.{word_range, Space, bytes_in, range_of, with_word, word_at}
use Rattle.rlsf_blocks.proofs.Words.NeverOut.{here_free}
use Rattle.std.proofs.Common.{◌≡◌, ℕ, ◌+◌, ◌-◌, ◌%◌, ◌^◌, ◌<◌, ◌≤◌, ◌⊎◌, List, ◌∷◌, ◌++◌, length, drop, Some, arith, inl, inr, refl, sym, ◌∙◌, ap, subst}
use mathlib.Core.Path.{ap₂}
use Rattle.std.proofs.lemmas.List.{length-drop, length-take-le}
use Rattle.std.specs.Int.{next_multiple_of}
use Rattle.rlsf_base.specs.declared.memory.range.Range.{Range}
use Rattle.rlsf_model_sizes.specs.PowerOfTwo.{IsPowerOfTwo}
use Rattle.rlsf_base.specs.Range.{end_of, LiesIn, range_at}
use Rattle.rlsf_model_sizes.specs.SizeClass.{class_of}
use Rattle.rlsf_model_sizes.specs.Sizes.{request_size}
use Rattle.rlsf_model_sizes.specs.Rounding.{round32}
use Rattle.rlsf_table.specs.Rewrites.{CanBeBlock, Rewrites}
use Rattle.rlsf_table.specs.Table.{Table}
use Rattle.rlsf_table.proofs.Tables.FreeTables.{HasTable-Rewrites}
use Rattle.rlsf_table.proofs.Words.Writes.{CanBeBlock-Rewrites, Rewrites-trans, Rewrites-weaken, Writes, Writes-some}
use Rattle.rlsf_table.proofs.Words.Writing.{IsWrite, write, rewrites_of, reads_of}
use Rattle.rlsf_blocks.specs.Steps.Touched.{Touched, in_hole}
use Rattle.rlsf_model.specs.Allocate.{choice, given, has_class, placed, Places, rest_behind}
use Rattle.rlsf_model.specs.Lists.{IsIn, without}
use Rattle.rlsf_model.specs.Payload.{block_for, payload_of}
use Rattle.rlsf_model.specs.State.{State, Used, between}
use Rattle.rlsf_model.specs.WellFormed.{IsWellFormed}
use Rattle.rlsf_blocks.specs.Spare.{KeepsSpare}
use Rattle.rlsf_blocks.specs.Steps.Rest.{IsOpened, IsTaken}
use Rattle.rlsf_blocks.specs.StandsFor.{contents, StandsFor}
use Rattle.rlsf_blocks.proofs.Words.Apart.{used_free, free_in_memory, home_of_free}
use Rattle.rlsf_blocks.proofs.Words.Refilled.{IsUsedStill, old_used, new_used, old_free, new_free, IsRefilled, StandsFor-refilled, KeepsSpare-refilled}
use Rattle.rlsf_blocks.proofs.Words.Stays.{IsPlacedAs, IsWritable-in, placed_by, placed_then, Stays, Stays-rewrites, Stays-then}
use Rattle.rlsf_blocks.proofs.RepresentedStates.FreeBlocks.{CanBeBlock-free}
use Rattle.rlsf_model.proofs.Allocations.{IsWellFormed-given, placed-fits}
use Rattle.rlsf_model.proofs.Changes.{IsIn-rest_behind}
use Rattle.rlsf_model.proofs.Choices.{choice-some}
use Rattle.rlsf_model.proofs.Coverage.{IsIn-append, IsIn-without}
use Rattle.rlsf_model.proofs.Payloads.{block_length-whole, payload_of-after, payload_of-aligned}
use Rattle.rlsf_model.proofs.RangeLengths.{wide_whole}
use Rattle.rlsf_blocks.proofs.Allocate.TakenOut.{left_apart}

pub length-bytes_in : (m : Space) (r : Range) → LiesIn r m.start (length m.bytes) → length (bytes_in m r) ≡ r.len
length-bytes_in m r inside = length-take-le r.len (drop (r.start - m.start) m.bytes) (omega (arith, length-drop (r.start - m.start) m.bytes, inside))

module _ {fllen sllen : ℕ} {m : Space} {table : Table} {s : State} (v : StandsFor fllen sllen (contents m table) s) (f : Range) (size align : ℕ) (power : IsPowerOfTwo align)
    (chosen : choice sllen (request_size size align) s.free ≡ Some f) where
  abbrev payload : ℕ
  payload = payload_of f.start align

  abbrev taken : ℕ
  taken = round32 (payload - f.start + size)

  pub is_free : IsIn f s.free
  is_free = (choice-some sllen (request_size size align) s.free f chosen).is_in

  -- where the payload lies
  pub record IsFitting : Type 0 where
    pub whole : f.start % 32 ≡ 0
    pub after_start : f.start + 16 ≤ payload_of f.start align
    pub before_end : payload_of f.start align ≤ f.start + round32 (payload_of f.start align - f.start + size)
    pub long : 32 ≤ round32 (payload_of f.start align - f.start + size)
    pub granules : round32 (payload_of f.start align - f.start + size) % 32 ≡ 0
    pub wide : 32 ≤ align → payload_of f.start align % 32 ≡ 0

  pub fitting : IsFitting
  fitting = record {
    whole = (v.well_formed.free f is_free).whole.start;
    after_start = payload_of-after f.start align;
    before_end = omega arith;
    long = omega arith;
    granules = block_length-whole f.start payload size;
    wide = λ w. wide_whole payload align power w (payload_of-aligned f.start align power);
  }

  pub IsTaken-chosen : IsTaken sllen s f f.start f.len (round32 (payload_of f.start align - f.start + size))
  IsTaken-chosen = record {
    found = (choice-some sllen (request_size size align) s.free f chosen).found;
    start = refl;
    length = refl;
    whole = fitting.granules;
    some = omega (arith, fitting.long);
    fits = placed-fits v.well_formed f size align power chosen;
  }

  -- the used block's words were written
  module _ {n1 n2 n : Space} {changed : Table} (opened : IsOpened fllen sllen m n1 changed s f (range_at f.start (round32 (payload_of f.start align - f.start + size))))
      (sized : IsWrite n1 n2 f.start (round32 (payload_of f.start align - f.start + size) + 1)) (padded : Writes n2 n (32 ≤ align) (payload_of f.start align - 8) f.start) where
    abbrev u : Used
    u = placed f size align (bytes_in n (between payload (end_of (block_for f.start payload size))))

    abbrev left : List Range
    left = rest_behind (range_at f.start taken) (end_of f) ++ without (has_class sllen (class_of sllen f.len)) s.free

    -- the two words that were written last
    last : Rewrites n1 n (λ a. (a ≡ f.start) ⊎ ((32 ≤ align) × (a ≡ payload_of f.start align - 8)))
    last = Rewrites-trans (rewrites_of sized) padded.rewrites

    same_start : n1.start ≡ m.start
    same_start = opened.rewrites.start

    rewrites : Rewrites m n (Touched s.free f (end_of f + 8))
    rewrites = Rewrites-weaken joined (Rewrites-trans opened.rewrites last)
      where
        joined : (a : ℕ) → Touched s.free f (end_of f + 8) a ⊎ ((a ≡ f.start) ⊎ ((32 ≤ align) × (a ≡ payload_of f.start align - 8)))
            → Touched s.free f (end_of f + 8) a
        joined a (inl t) = t
        joined a (inr (inl at)) = in_hole (omega arith) (omega (arith, fitting.long, placed-fits v.well_formed f size align power chosen))
        joined a (inr (inr (w, at))) =
            in_hole (omega (arith, fitting.after_start)) (omega (arith, fitting.after_start, fitting.before_end, placed-fits v.well_formed f size align power chosen))

    -- a second word is as it was when the block was opened
    second : (a : ℕ) → a % 32 ≡ 8 → m.start ≤ a → word_at n a ≡ word_at n1 a
    second a place from = last.words a (omega arith) (omega (arith, same_start)) go
      where
        go : (a ≡ f.start) ⊎ ((32 ≤ align) × (a ≡ payload_of f.start align - 8)) → ⊥
        go (inl at) = omega (arith, fitting.whole)
        go (inr (w, at)) = omega (arith, fitting.wide w, fitting.after_start)

    -- the words once its front is the block
    refilled : IsRefilled fllen sllen m n changed s (u ∷ s.used) left f
    refilled =
        let fit = fitting in
        let place = free_in_memory v.well_formed f is_free in
        record {
          rewrites = rewrites;
          first = second (f.start + 8) (omega (arith, fit.whole)) (omega (arith, place.0)) ∙ opened.first;
          used_still = used_still;
          free_still = λ g i. elim (sorted g i) [
            | inl j ↦ new_free (rest_size g j ∙ (opened.rest g j).0) (rest_previous g j ∙ (opened.rest g j).1)
            | inr j ↦ old_free (IsIn-without (has_class sllen (class_of sllen f.len)) g s.free j) (λ a hg hf. left_apart v IsTaken-chosen g j a hg.from hg.to hf.from hf.to)
          ];
          table = HasTable-Rewrites last linked other opened.table;
          own = λ a from unlent. v.own a from (λ x i. unlent x (inr i));
        }
      where
        used_still : (y : Used) → IsIn y (u ∷ s.used) → IsUsedStill n s f y
        used_still y (inr i) = old_used i (λ a hy hf. used_free v.well_formed y f a i is_free hy hf)
        used_still y (inl same) =
            let place = free_in_memory v.well_formed f is_free in
            let size =
            padded.rewrites.words f.start (omega (arith, fitting.whole)) (omega (arith, same_start, sized.start, place.0)) (λ (w, at). omega (arith, fitting.after_start))
            ∙ reads_of sized in
            let behind = second (f.start + taken + 8) (omega (arith, fitting.whole, fitting.granules)) (omega (arith, place.0)) ∙ opened.behind in
            subst (IsUsedStill n s f) (sym same) (new_used size behind refl padded.reads)

        rest_size : (g : Range) → IsIn g (rest_behind (range_at f.start taken) (end_of f)) → word_at n g.start ≡ word_at n1 g.start
        rest_size g i =
            let start : g.start ≡ f.start + taken = ap (λ q. q.start) (IsIn-rest_behind (range_at f.start taken) (end_of f) g i).0 in
            last.words g.start (omega (arith, fitting.whole, fitting.granules)) (omega (arith, same_start, (free_in_memory v.well_formed f is_free).0)) (apart start)
          where
            apart : g.start ≡ f.start + taken → (g.start ≡ f.start) ⊎ ((32 ≤ align) × (g.start ≡ payload - 8)) → ⊥
            apart start (inl at) = omega (arith, fitting.long)
            apart start (inr (w, at)) = omega (arith, fitting.before_end, fitting.after_start)

        rest_previous : (g : Range) → IsIn g (rest_behind (range_at f.start taken) (end_of f)) → word_at n (end_of g + 8) ≡ word_at n1 (end_of g + 8)
        rest_previous g i =
            let (same, short) = IsIn-rest_behind (range_at f.start taken) (end_of f) g i in
            let end : end_of g ≡ end_of f = ap end_of same ∙ omega arith in
            let is = v.well_formed.free f is_free in
            second (end_of g + 8) (omega (arith, is.whole.start, is.whole.len)) (omega (arith, (free_in_memory v.well_formed f is_free).0))

        -- a block of the list lies behind the front of f, or apart from f
        sorted : (g : Range) → IsIn g left → IsIn g (rest_behind (range_at f.start taken) (end_of f)) ⊎ IsIn g (without (has_class sllen (class_of sllen f.len)) s.free)
        sorted g = IsIn-append g (rest_behind (range_at f.start taken) (end_of f)) (without (has_class sllen (class_of sllen f.len)) s.free)

        linked : (g : Range) → IsIn g left → CanBeBlock n1 g
        linked g i = elim (sorted g i) [
          | inl j ↦ let (same, short) = IsIn-rest_behind (range_at f.start taken) (end_of f) g j in subst (CanBeBlock n1) (sym same) (rest_placed short)
          | inr j ↦ CanBeBlock-Rewrites opened.rewrites (CanBeBlock-free v g (IsIn-without (has_class sllen (class_of sllen f.len)) g s.free j))
        ]
          where
            rest_placed : f.start + taken < end_of f → CanBeBlock n1 (between (f.start + taken) (end_of f))
            rest_placed short =
                let fit = fitting in
                let place = free_in_memory v.well_formed f is_free in
                record {
                  some = omega (arith, fit.long);
                  whole = omega (arith, fit.whole, fit.granules);
                  room = omega (arith, fit.whole, fit.granules, (v.well_formed.free f is_free).whole.len);
                  lies_in = (omega (arith, place.0), omega (arith, place.1, opened.rewrites.length));
                  own = own-there m n1 (between (f.start + taken) (end_of f)) (omega arith) opened.rewrites.own
                      (own-inside m f (between (f.start + taken) (end_of f)) (omega arith) (omega (arith, short)) (here_free v f is_free));
                }

        no_link : (g : Range) → IsIn g left → (i : ℕ) → i % 8 ≡ 0 → 8 ≤ i → i + 8 ≤ 32
            → (g.start + i ≡ f.start) ⊎ ((32 ≤ align) × (g.start + i ≡ payload - 8)) → ⊥
        no_link g among i whole some within (inl at) = omega (arith, (linked g among).whole, fitting.whole)
        no_link g among i whole some within (inr (w, at)) = elim (sorted g among) [
          | inl j ↦ let start : g.start ≡ f.start + taken = ap (λ q. q.start) (IsIn-rest_behind (range_at f.start taken) (end_of f) g j).0 in
              omega (arith, fitting.before_end, fitting.after_start)
          | inr j ↦
              let fit = fitting in
              left_apart v IsTaken-chosen g j (g.start + i) (omega arith) (omega (arith, (linked g among).room)) (omega (arith, fit.after_start))
              (omega (arith, fit.after_start, fit.before_end, placed-fits v.well_formed f size align power chosen))
        ]

        other : (g : Range) → IsIn g left → ¬ ((g.start + 16 ≡ f.start) ⊎ ((32 ≤ align) × (g.start + 16 ≡ payload - 8)))
            × ¬ ((g.start + 24 ≡ f.start) ⊎ ((32 ≤ align) × (g.start + 24 ≡ payload - 8)))
        other g i = (no_link g i 16 refl (omega arith) (omega arith), no_link g i 24 refl (omega arith) (omega arith))

    -- the state with the block is in the memory, and no spare byte has changed
    pub Places-written : (addr : ℕ) → addr ≡ payload_of f.start align
        → (t : State) × Places sllen s size align addr t × StandsFor fllen sllen (contents n changed) t × KeepsSpare m s n t
    Places-written addr is =
        let place = free_in_memory v.well_formed f is_free in
        let free = v.well_formed.free f is_free in
        let home = home_of_free v.well_formed f is_free in
        let bytes = bytes_in n (between payload (end_of (block_for f.start payload size))) in
        let inside : LiesIn (between payload (end_of (block_for f.start payload size))) n.start (length n.bytes) = (
          omega (arith, rewrites.start, place.0, fitting.after_start),
          omega (arith, rewrites.start, rewrites.length, place.1, fitting.before_end, placed-fits v.well_formed f size align power chosen),
        ) in
        let long : length bytes ≡ end_of (block_for f.start payload size) - payload = length-bytes_in n (between payload (end_of (block_for f.start payload size))) inside in
        let well_formed = IsWellFormed-given v.well_formed f size align power chosen bytes long in
        let same : range_of n ≡ range_of m = ap₂ (λ a l. range_at a l) rewrites.start rewrites.length in
        let t_well_formed = subst (λ p. IsWellFormed fllen sllen p (given sllen s f u)) (sym same) well_formed in (
          given sllen s f u,
          (grind arith),
          StandsFor-refilled v f free.whole free.some home refilled t_well_formed,
          KeepsSpare-refilled v f free.whole free.some home refilled,
        )

  -- what the code computes of the block, its payload and its length
  pub record AreComputed (block len address bytes : ℕ) : Type 0 where
    pub start : f.start ≡ block
    pub length : len ≡ f.len
    pub payload : address ≡ payload_of f.start align
    pub taken : bytes ≡ round32 (payload_of f.start align - f.start + size)

  pub AreComputed-from : (block len to address wanted bytes : ℕ) → f.start ≡ block → len ≡ word_at m block → to ≡ align
      → address ≡ next_multiple_of (block + 16) to → wanted ≡ size → bytes ≡ next_multiple_of (address - block + wanted) 32 → AreComputed block len address bytes
  AreComputed-from block len to address wanted bytes start word same_to is_address same_wanted is_bytes =
      let at : address ≡ payload_of f.start align = is_address ∙ ap₂ (λ b a. next_multiple_of (b + 16) a) (sym start) same_to in
      record {
        start = start;
        length = word ∙ ap (word_at m) (sym start) ∙ v.sizes.free f is_free;
        payload = at;
        taken = is_bytes ∙ ap (λ w. next_multiple_of (address - block + w) 32) same_wanted ∙ ap₂ (λ p b. next_multiple_of (p - b + size) 32) at (sym start);
      }

module _ {fllen sllen : ℕ} {m : Space} {table : Table} {s : State} {v : StandsFor fllen sllen (contents m table) s} {f : Range} {size align : ℕ} {power : IsPowerOfTwo align}
    {chosen : choice sllen (request_size size align) s.free ≡ Some f} {block len address bytes : ℕ}
    (are : AreComputed v f size align power chosen block len address bytes) where
  fit : IsFitting v f size align power chosen
  fit = fitting v f size align power chosen

  free : IsIn f s.free
  free = is_free v f size align power chosen

  pub IsTaken-computed : IsTaken sllen s f block len bytes
  IsTaken-computed = record {
    found = (choice-some sllen (request_size size align) s.free f chosen).found;
    start = are.start;
    length = sym are.length;
    whole = ap (λ n. n % 32) are.taken ∙ fit.granules;
    some = omega (arith, are.taken, fit.long);
    fits =
        omega (arith, are.taken, are.length, placed-fits v.well_formed f size align power chosen);
  }

  -- the block's first word lies in the memory, or in another one of its place and length
  pub IsWritable-block : {n : Space} → IsPlacedAs m n → IsWritable n block
  IsWritable-block is =
      let place = free_in_memory v.well_formed f free in
      let whole = (v.well_formed.free f free).whole in
      IsWritable-in is f (omega (arith, place.0), omega (arith, place.1)) (here_free v f free) block (omega (arith, are.start, whole.start)) (omega (arith, are.start))
      (omega (arith, are.start, (v.well_formed.free f free).some, whole.len))

  -- the block was taken out of the list, and then its size word was written
  pub record IsSized (n1 n2 : Space) (changed : Table) : Type 0 where
    pub opened : IsOpened fllen sllen m n1 changed s f (range_at block bytes)
    pub sized : IsWrite n1 n2 block (bytes + 1)

  pub IsSized-from : {n1 n2 : Space} {changed : Table} → IsOpened fllen sllen m n1 changed s f (range_at block bytes) → n2.start ≡ n1.start
      → n2.bytes ≡ with_word n1 block (bytes + 1) → bytes + 1 < 2 ^ 64 → n2.out ≡ out_with n1 (word_range block) → IsSized n1 n2 changed
  IsSized-from opened start written fits out =
      record { opened = opened; sized = write (IsWritable-block (placed_by opened.rewrites)) start written fits out }

  module _ {n1 n2 : Space} {changed : Table} (is : IsSized n1 n2 changed) where
    -- the word before the payload lies in the memory
    pub IsWritable-pad : 32 ≤ align → IsWritable n2 (address - 8)
    IsWritable-pad wide =
        let fits = fit in
        let place = free_in_memory v.well_formed f free in
        IsWritable-in (placed_then (placed_by is.opened.rewrites) (placed_by (rewrites_of is.sized))) f (omega (arith, place.0), omega (arith, place.1))
        (here_free v f free) (address - 8) (omega (arith, are.payload, fits.wide wide, fits.after_start)) (omega (arith, are.payload, fits.after_start))
        (omega (arith, are.payload, fits.after_start, fits.before_end, placed-fits v.well_formed f size align power chosen))

    pub padded : (n : Space) → 32 ≤ align → n.start ≡ n2.start → n.bytes ≡ with_word n2 (address - 8) block → n.out ≡ out_with n2 (word_range (address - 8))
        → Writes n2 n (32 ≤ align) (address - 8) block
    padded n wide =
        Writes-some (32 ≤ align) wide (IsWritable-pad wide) (omega (arith, are.start, (free_in_memory v.well_formed f free).1, v.well_formed.addressable))

    -- no byte leaves, and none that is here becomes raw
    pub Stays-sized : {n : Space} → Writes n2 n (32 ≤ align) (address - 8) block → Stays m n
    Stays-sized named = Stays-then (Stays-rewrites is.opened.rewrites) (Stays-then (Stays-rewrites (rewrites_of is.sized)) (Stays-rewrites named.rewrites))

    -- with that word, where it is wanted, the block is in the memory
    pub Places-sized : {n : Space} → Writes n2 n (32 ≤ align) (address - 8) block
        → (t : State) × Places sllen s size align address t × StandsFor fllen sllen (contents n changed) t × KeepsSpare m s n t
    Places-sized {n} padded =
        Places-written v f size align power chosen (subst (λ q. IsOpened fllen sllen m n1 changed s f q) (ap₂ (λ b t. range_at b t) (sym are.start) are.taken) is.opened)
        (subst (λ b. IsWrite n1 n2 b (round32 (payload_of f.start align - f.start + size) + 1)) (sym are.start) (subst (λ t. IsWrite n1 n2 block (t + 1)) are.taken is.sized))
        (subst (λ b. Writes n2 n (32 ≤ align) (payload_of f.start align - 8) b) (sym are.start) (subst (λ p. Writes n2 n (32 ≤ align) (p - 8) block) are.payload padded))
        address are.payload
