-- The blocks of one pool after another are all blocks.
use Rattle.std.proofs.Common.{◌≡◌, ◌↔◌, ◌⊎◌, ℕ, ◌<◌, ◌≤◌, List, [], ◌∷◌, ◌++◌, Option, Some, None, cond, false, true≢false, find, nat_le, get_or, length, take, ◌+◌, ◌^◌, arith, refl, sym, ◌∙◌, ap, subst, inl, inr}
use Rattle.std.proofs.lemmas.Bool.{cases_lt, le-leb, leb-true}
use Rattle.std.proofs.lemmas.List.{take_all, take_more}
use Rattle.rlsf_base.specs.declared.memory.range.Range.{Range}
use Rattle.rlsf_base.specs.Range.{end_of}
use Rattle.rlsf_model_sizes.specs.Rounding.{round32}
use Rattle.rlsf_base.proofs.Numbers.Roundings.{round32-le, round32-least}
use Rattle.rlsf_blocks.specs.Blocks.{AreBlocks, Block, HasBlock, IsInOrder, free, used, walked}
use Rattle.rlsf_blocks.specs.Totals.{free_of, total, used_of}
use Rattle.rlsf_blocks.proofs.Words.Apart.{home_of_free, home_of_used}
use Rattle.rlsf_blocks.proofs.Walking.Listed.{IsInOrder-append}
use Rattle.rlsf_model.specs.ChunkRows.{IsRow}
use Rattle.rlsf_model.specs.Lists.{IsIn}
use Rattle.rlsf_model.specs.State.{State}
use Rattle.rlsf_model.specs.WellFormed.{IsWellFormed}
use Rattle.rlsf_model.proofs.Coverage.{by_test, IsIn-append, IsIn-append_left, IsIn-append_right}
use Rattle.rlsf_model.proofs.Payloads.{IsUsed-some}
use Rattle.rlsf_checked.specs.AllBlocks.{IsFirstFrom}
use Rattle.rlsf_checked.specs.Checked.{PoolList}
use Rattle.rlsf_checked.specs.Steps.Standing.{AreCheckedPools, IsOneOf}
use Rattle.rlsf_checked.proofs.Joined.{total-le}
use Rattle.rlsf_checked.proofs.ListedPools.{IsIn-get_or, IsIn-take, before_at, behind_at, only}

-- the first one of some blocks that begins at an address or behind it, if one does
abbrev pub IsFirstIn : ℕ → List Block → Option Block → Type 0
IsFirstIn from bs None = (b : Block) → IsIn b bs → b.range.start < from
IsFirstIn from bs (Some b) = IsIn b bs × (from ≤ b.range.start) × ((c : Block) → IsIn c bs → from ≤ c.range.start → b.range.start ≤ c.range.start)

pub first_in : (from : ℕ) (bs : List Block) → IsInOrder bs → (o : Option Block) → find (λ b. nat_le from b.range.start) bs ≡ o → IsFirstIn from bs o
first_in from [] order o e = subst (IsFirstIn from []) e (λ b i. absurd i)
first_in from (b ∷ bs) (first, rest) o e = by_test (nat_le from b.range.start)
    (λ passes. subst (IsFirstIn from (b ∷ bs)) (sym (ap (λ k. cond k (Some b) (find (λ c. nat_le from c.range.start) bs)) passes) ∙ e) (
      inl refl,
      leb-true from b.range.start passes,
      λ c i late. elim i [
        | inl same ↦ omega (arith, ap (λ (x : Block). x.range.start) same)
        | inr j ↦ omega (arith, first c j)
      ],
    ))
    (λ fails. more o (first_in from bs rest o (sym (ap (λ k. cond k (Some b) (find (λ c. nat_le from c.range.start) bs)) fails) ∙ e)) fails)
  where
    early : nat_le from b.range.start ≡ false → b.range.start < from
    early fails = elim (cases_lt b.range.start from) [
      | inl below ↦ below
      | inr above ↦ absurd (true≢false (sym (le-leb from b.range.start above) ∙ fails))
    ]

    more : (p : Option Block) → IsFirstIn from bs p → nat_le from b.range.start ≡ false → IsFirstIn from (b ∷ bs) p
    more None all fails = λ c i. elim i [ inl same ↦ omega (arith, early fails, ap (λ (x : Block). x.range.start) same) | inr j ↦ all c j ]
    more (Some d) (i, from_d, least) fails = (
      inr i,
      from_d,
      λ c j late. elim j [
        | inl same ↦ absurd (omega (arith, early fails, ap (λ (x : Block). x.range.start) same, late))
        | inr k ↦ least c k late
      ],
    )

-- the block lies in the part of a pool that is iterated over
abbrev LiesInWalked : Block → Range → Type 0
LiesInWalked b p = ((walked p).start ≤ b.range.start) × (end_of b.range ≤ end_of (walked p))

-- the blocks of some pools, in the order of their addresses
pub record AreIn (s : State) (ps : List Range) (bs : List Block) : Type 0 where
  pub exactly : (b : Block) → IsIn b bs ↔ (HasBlock s b × (p : Range) × IsIn p ps × LiesInWalked b p)
  pub in_order : IsInOrder bs

-- the chunk in which a block lies
record Home (s : State) (b : Block) : Type 0 where
  pub chunk : Range
  pub is_chunk : IsIn chunk s.chunks
  pub from : chunk.start ≤ b.range.start
  pub to : end_of b.range ≤ end_of chunk
  pub some : 0 < b.range.len

module _ {fllen sllen : ℕ} {memory : Range} {s : State} (w : IsWellFormed fllen sllen memory s) where
  home_of : (b : Block) → HasBlock s b → Home s b
  home_of b (used u i same occupied) =
      let home = home_of_used w u i in record {
        chunk = home.chunk;
        is_chunk = home.is_chunk;
        from = omega (arith, home.from, ap (λ (x : Range). x.start) same);
        to = omega (arith, home.to, ap end_of same);
        some = omega (arith, IsUsed-some u (w.used u i), ap (λ (x : Range). x.len) same);
      }
  home_of b (free i occupied) =
      let home = home_of_free w b.range i in
      record { chunk = home.chunk; is_chunk = home.is_chunk; from = home.from; to = omega (arith, home.to); some = (w.free b.range i).some }

  -- a block lies in the memory
  pub lies_in_memory : (b : Block) → HasBlock s b → (memory.start ≤ b.range.start) × (end_of b.range ≤ end_of memory)
  lies_in_memory b has =
      let home = home_of b has in
      let chunk = (w.chunks home.chunk home.is_chunk).lies_in in
      (omega (arith, home.from, chunk.0), omega (arith, home.to, chunk.1))

  -- so together they are no longer
  pub fits : (bs : List Block) → IsInOrder bs → ((b : Block) → IsIn b bs → HasBlock s b) → total (used_of bs) + total (free_of bs) < 2 ^ 64
  fits bs order has =
      let some = total-le bs 0 (end_of memory) (omega arith) order (λ b i. (omega arith, (lies_in_memory b (has b i)).1)) in
      omega (arith, some, w.addressable)

  module _ {pools : PoolList} (are : AreCheckedPools s pools) where
    -- the pool in which a block lies
    in_pool : (b : Block) → HasBlock s b → (p : Range) × IsOneOf p pools × LiesInWalked b p
    in_pool b has =
        let home = home_of b has in
        let (p, one, from, to) = are.homes home.chunk home.is_chunk in
        let start : round32 p.start ≤ home.chunk.start = round32-least p.start home.chunk.start (w.chunks home.chunk home.is_chunk).whole.start from in
        (p, one, (omega (arith, start, home.from), omega (arith, start, home.from, home.to, home.some, to)))

    -- the blocks of pools and of a later one
    pub one_more : {ps : List Range} {bs : List Block} → AreIn s ps bs → (p : Range) (cs : List Block) → AreBlocks s (walked p) cs
        → ((q : Range) → IsIn q ps → IsIn q pools.earlier × (end_of q ≤ p.start)) → AreIn s (ps ++ p ∷ []) (bs ++ cs)
    one_more {ps} {bs} have p cs blocks before = record {
      exactly = λ b. (
        λ i. elim (IsIn-append b bs cs i) [
          | inl j ↦ let (has, q, k, lies) = (have.exactly b).0 j in (has, q, IsIn-append_left q ps (p ∷ []) k, lies)
          | inr j ↦ let (has, low, high) = (blocks.exactly b).0 j in (has, p, IsIn-append_right p ps (p ∷ []) (inl refl), (low, high))
        ],
        λ (has, q, i, lies). elim (IsIn-append q ps (p ∷ []) i) [
          | inl j ↦ IsIn-append_left b bs cs ((have.exactly b).1 (has, q, j, lies))
          | inr j ↦ let (low, high) = subst (LiesInWalked b) (only j) lies in IsIn-append_right b bs cs ((blocks.exactly b).1 (has, low, high))
        ],
      );
      in_order = IsInOrder-append bs cs have.in_order blocks.in_order (λ b c i j.
          let (old, q, k, lies) = (have.exactly b).0 i in
          let (new, from, to) = (blocks.exactly c).0 j in
          let (l, ends) = before q k in
          omega (arith, lies.1, (are.each q (inl l)).room, ends, from, round32-le p.start));
    }

    -- those of all pools are all blocks
    pub all_of_them : {bs cs : List Block} → AreIn s pools.earlier bs → AreBlocks s (walked pools.last) cs → AreBlocks s memory (bs ++ cs)
    all_of_them {bs} {cs} have blocks =
        let both = one_more have pools.last cs blocks (λ q i. (i, are.behind q i)) in
        record {
          exactly = λ b. (
            λ i. (let (has, q, j, lies) = (both.exactly b).0 i in let (low, high) = lies_in_memory b has in (has, low, high)),
            λ (has, low, high). (
                let (p, one, lies) = in_pool b has in
                (both.exactly b).1 (
                  has,
                  p,
                  elim one [
                    | inl i ↦ IsIn-append_left p pools.earlier (pools.last ∷ []) i
                    | inr (same, some) ↦ IsIn-append_right p pools.earlier (pools.last ∷ []) (inl same)
                  ],
                  lies,
                )),
          );
          in_order = both.in_order;
        }

    -- the first block of a pool from an address on is the first of all, if no block of the pools before is behind it; and if it has none, no
    -- block of these and of it is
    module _ {ps : List Range} {bs : List Block} (have : AreIn s ps bs) (low : ℕ) (none : (b : Block) → IsIn b bs → b.range.start < low) (p : Range) (cs : List Block)
        (blocks : AreBlocks s (walked p) cs) where
      pub first_found : ((q : Range) → IsOneOf q pools → IsIn q ps ⊎ ((q ≡ p) ⊎ (end_of p ≤ q.start))) → (b : Block) → IsFirstIn low cs (Some b)
          → IsFirstFrom s low (Some b)
      first_found rest b (i, from_low, least) =
          let (has, from, to) = (blocks.exactly b).0 i in (
            has,
            from_low,
            λ c held late.
                let (q, one, lies) = in_pool c held in
                elim (rest q one) [
                  | inl before ↦ absurd (omega (arith, none c ((have.exactly c).1 (held, q, before, lies)), late))
                  | inr other ↦ elim other [
                    | inl same ↦ let (begins, ends) = subst (LiesInWalked c) same lies in least c ((blocks.exactly c).1 (held, begins, ends)) late
                    | inr behind ↦ omega (arith, behind, lies.0, round32-le q.start, to, from, (home_of b has).some)
                  ]
                ],
          )

      pub none_found : IsFirstIn low cs None → (b : Block) → IsIn b (bs ++ cs) → b.range.start < low
      none_found rest b i = elim (IsIn-append b bs cs i) [ inl j ↦ none b j | inr j ↦ rest b j ]

    -- the pool at an index
    module _ (items : List Range) (same : items ≡ pools.earlier) (i : ℕ) (p : Range) (within : i < length items) (is : p ≡ get_or items i p) where
      lt : i < length pools.earlier
      lt = subst (λ (xs : List Range). i < length xs) same within

      at : p ≡ get_or pools.earlier i p
      at = subst (λ (xs : List Range). p ≡ get_or xs i p) same is

      here : IsIn p pools.earlier
      here = subst (λ x. IsIn x pools.earlier) (sym at) (IsIn-get_or pools.earlier i p lt)

      pub row_at : IsRow s (walked p)
      row_at = (are.each p (inl here)).row

      pub one_more_pool : {bs : List Block} → AreIn s (take i pools.earlier) bs → (cs : List Block) → AreBlocks s (walked p) cs
          → AreIn s (take (i + 1) pools.earlier) (bs ++ cs)
      one_more_pool {bs} have cs blocks =
          subst (λ ps. AreIn s ps (bs ++ cs)) (sym (take_more pools.earlier i p lt ∙ ap (λ q. take i pools.earlier ++ q ∷ []) (sym at)))
          (one_more have p cs blocks (λ q j.
          (IsIn-take pools.earlier i q j, subst (λ (x : Range). end_of q ≤ x.start) (sym at) (before_at pools.earlier i p are.order lt q j))))

      pub first_at : {bs : List Block} → AreIn s (take i pools.earlier) bs → (low : ℕ) → ((b : Block) → IsIn b bs → b.range.start < low) → (cs : List Block)
          → AreBlocks s (walked p) cs → (b : Block) → IsFirstIn low cs (Some b) → IsFirstFrom s low (Some b)
      first_at {bs} have low none cs blocks = first_found have low none p cs blocks rest
        where
          rest : (q : Range) → IsOneOf q pools → IsIn q (take i pools.earlier) ⊎ ((q ≡ p) ⊎ (end_of p ≤ q.start))
          rest q (inr last) = inr (inr (omega (arith, are.behind p here, ap (λ (x : Range). x.start) last.0)))
          rest q (inl j) = elim (behind_at pools.earlier i p are.order lt q j) [
            | inl k ↦ inl k
            | inr k ↦ inr (elim k [ inl one ↦ inl (one ∙ sym at) | inr behind ↦ inr (subst (λ (x : Range). end_of x ≤ q.start) (sym at) behind) ])
          ]

    -- at the end of the list those are the blocks of its pools
    pub all_earlier : {bs : List Block} (i : ℕ) → length pools.earlier ≤ i → AreIn s (take i pools.earlier) bs → AreIn s pools.earlier bs
    all_earlier {bs} i past have = subst (λ ps. AreIn s ps bs) (take_all i pools.earlier past) have

    -- so the first of the last pool is the first of all, if there is one
    pub first_of_last : {bs : List Block} → AreIn s pools.earlier bs → (low : ℕ) → ((b : Block) → IsIn b bs → b.range.start < low) → (cs : List Block)
        → AreBlocks s (walked pools.last) cs → (o : Option Block) → find (λ b. nat_le low b.range.start) cs ≡ o → IsFirstFrom s low o
    first_of_last have low none cs blocks None e = λ b has.
        none_found have low none pools.last cs blocks (first_in low cs blocks.in_order None e) b
        (let (from, to) = lies_in_memory b has in ((all_of_them have blocks).exactly b).1 (has, from, to))
    first_of_last have low none cs blocks (Some b) e =
        first_found have low none pools.last cs blocks (λ q one. elim one [ inl i ↦ inl i | inr (same, some) ↦ inr (inl same) ]) b
        (first_in low cs blocks.in_order (Some b) e)

-- no pool has no block
pub none_yet : (s : State) → AreIn s [] []
none_yet s = record { exactly = λ b. (λ i. absurd i, λ (has, p, i, lies). absurd i); in_order = tt }
