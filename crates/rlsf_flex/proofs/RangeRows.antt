-- The contiguous chunks of a range: what lies in the range lies in them, and an iteration over them shows whether a block there is used.
use mathlib.Core.Path.{ap₂}
use Rattle.std.proofs.Common.{◌≡◌, ℕ, ◌+◌, ◌-◌, ◌%◌, ◌<◌, ◌≤◌, cond, not, true, true≢false, List, [], ◌∷◌, arith, refl, sym, ◌∙◌, ap}
use Rattle.std.proofs.Common.{inl, inr}
use Rattle.std.proofs.lemmas.Bool.{cases_lt, false_from_ne_true}
use Rattle.rlsf_base.specs.declared.memory.range.Range.{Range}
use Rattle.rlsf_base.specs.Range.{end_of, range_at}
use Rattle.rlsf_model_sizes.specs.Rounding.{round32}
use Rattle.rlsf_base.proofs.Numbers.Roundings.{round32-le, round32-least}
use Rattle.rlsf_blocks.specs.Blocks.{AreBlocks, Block, used, free, walked}
use Rattle.rlsf_model.specs.ChunkRows.{IsRow}
use Rattle.rlsf_model.specs.FlexWellFormed.{IsPool}
use Rattle.rlsf_model.specs.Lists.{IsIn}
use Rattle.rlsf_model.specs.Remove.{IsIdle, lies_within, outside_of, removed}
use Rattle.rlsf_model.specs.State.{State}
use Rattle.rlsf_model.specs.WellFormed.{coverage, itself, IsWellFormed}
use Rattle.rlsf_model.proofs.Coverage.{by_test, coverage-IsIn, coverage-some, coverage-unique, covers-inside}
use Rattle.rlsf_model.proofs.RangesInChunks.{coverage-in, coverage-none}
use Rattle.rlsf_model.proofs.Payloads.{payload_of-after}
use Rattle.rlsf_model.proofs.Removals.{lies_within-le, lies_within-true}
use Rattle.rlsf_model.proofs.Tiling.{block_of, lies_in_chunk, tiling_of, IsPart-free, IsPart-used}

-- the range, up to the end of its last chunk
abbrev pub row_of : Range → ℕ → Range
row_of r len = range_at r.start len

-- ranges that leave the same of a list
outside_of-same : (q r : Range) (xs : List Range) → ((x : Range) → IsIn x xs → lies_within q x ≡ lies_within r x) → outside_of q xs ≡ outside_of r xs
outside_of-same q r [] same = refl
outside_of-same q r (x ∷ xs) same =
    ap (λ b. cond (not b) (x ∷ outside_of q xs) (outside_of q xs)) (same x (inl refl))
    ∙ ap (λ l. cond (not (lies_within r x)) (x ∷ l) l) (outside_of-same q r xs (λ y i. same y (inr i)))

-- no chunk of a range's row has bytes on both sides of an address there
pub record IsEdge (s : State) (r : Range) (len a : ℕ) : Type 0 where
  pub from : round32 r.start ≤ a
  pub to : a ≤ r.start + len
  pub parted : (c : Range) → IsIn c s.chunks → round32 r.start ≤ c.start → c.start < a → end_of c ≤ a

module _ {fllen sllen : ℕ} {memory : Range} {s : State} (w : IsWellFormed fllen sllen memory s) where
  module _ (r : Range) (len : ℕ) (is : IsPool s r len) where
    -- what lies in a chunk and in the range ends in the row
    ends_in_row : (x : Range) → 0 < x.len → (c : Range) → IsIn c s.chunks → c.start ≤ x.start → end_of x ≤ end_of c → r.start ≤ x.start → end_of x ≤ end_of r
        → end_of x ≤ r.start + len
    ends_in_row x some c i from to low high = elim (cases_lt (r.start + len) (end_of x)) [
      | inl later ↦
          let a = end_of x - 1 in
          let within = is.within in
          absurd (omega (arith, is.unused a (omega arith) (omega arith), coverage-in c s.chunks a i (omega arith) (omega arith)))
      | inr fits ↦ fits
    ]

    -- and so lies in the row as it lies in the range
    lies_same : (x : Range) → x.start % 32 ≡ 0 → 0 < x.len → (c : Range) → IsIn c s.chunks → c.start ≤ x.start → end_of x ≤ end_of c
        → lies_within (walked (row_of r len)) x ≡ lies_within r x
    lies_same x whole some c i from to =
        let within = is.within in
        let begins = round32-le r.start in
        let more = is.some in
        by_test (lies_within r x)
        (λ e. let lies = lies_within-true r x e in
        let ends = ends_in_row x some c i from to lies.0 lies.1 in
        lies_within-le (walked (row_of r len)) x (round32-least r.start x.start whole lies.0) (omega (arith, ends)) ∙ sym e)
        (λ e. false_from_ne_true (lies_within (walked (row_of r len)) x) (λ f.
        let lies = lies_within-true (walked (row_of r len)) x f in
        true≢false (sym (lies_within-le r x (omega (arith, lies.0)) (omega (arith, lies.1))) ∙ e)) ∙ sym e)

    -- with the row the range is taken out
    pub removed-row : removed (walked (row_of r len)) s ≡ removed r s
    removed-row =
        let chunks =
        outside_of-same (walked (row_of r len)) r s.chunks
        (λ c i. lies_same c (w.chunks c i).whole.start (omega (arith, (w.chunks c i).has_room)) c i (omega arith) (omega arith)) in
        let free = outside_of-same (walked (row_of r len)) r s.free (λ f i.
        let home = lies_in_chunk s (tiling_of w) f (w.free f i).some (IsPart-free s (tiling_of w) f i) in
        lies_same f (w.free f i).whole.start (w.free f i).some home.chunk home.is_chunk home.from (omega (arith, home.to))) in
        ap₂ (λ x y. record { chunks = x; used = s.used; free = y }) chunks free

    -- the row is idle if the range is
    pub idle_row : IsIdle s r → IsIdle s (walked (row_of r len))
    idle_row idle a low high = grind (arith, round32-le)

    -- and the other way round, where no chunk begins before the range and ends in it
    pub idle_range : ((c : Range) (a : ℕ) → IsIn c s.chunks → r.start ≤ a → a < end_of r → c.start ≤ a → a < end_of c → r.start ≤ c.start)
        → IsIdle s (walked (row_of r len)) → IsIdle s r
    idle_range housed idle a low high =
        let within = is.within in
        let begins = round32-le r.start in
        let more = is.some in
        elim (cases_lt a (round32 r.start)) [
          | inl before ↦
              let none = coverage-none s.chunks a (λ c i from to.
              let start = round32-least r.start c.start (w.chunks c i).whole.start (housed c a i low high from to) in
              omega (arith, start)) in
              omega (arith, w.tiled a, none)
          | inr from ↦ elim (cases_lt a (r.start + len)) [
            | inl inside ↦ idle a (omega arith) (omega arith)
            | inr behind ↦ omega (arith, w.tiled a, is.unused a (omega arith) (omega arith))
          ]
        ]

  -- ---- iterations

  module _ (q : Range) (bs : List Block) (are : AreBlocks s q bs) where
    -- where the iteration gives a used block, the row isn't idle
    pub occupied_held : (b : Block) → IsIn b bs → b.is_occupied ≡ true → IsIdle s q → ⊥
    occupied_held b i is idle =
        let (has, from, to) = (are.exactly b).0 i in
        elim has [
          | used u j same occupied ↦
              let a = b.range.start in
              let start : b.range.start ≡ u.block.start = ap (λ x. x.start) same in
              let end : end_of b.range ≡ end_of u.block = ap end_of same in
              let is_used = w.used u j in
              let some : u.block.start < end_of u.block = omega (arith, is_used.within, is_used.placed, payload_of-after u.block.start u.align) in
              omega (arith, idle a (omega arith) (omega arith), coverage-IsIn block_of u s.used a j, covers-inside u.block a (omega arith) (omega arith))
          | free j not_occupied ↦ true≢false (sym is ∙ not_occupied)
        ]

    -- where it gives none, the row is idle
    pub none_occupied : IsRow s q → ((b : Block) → IsIn b bs → b.is_occupied ≡ true → ⊥) → IsIdle s q
    none_occupied row none a low high = elim (cases_lt 0 (coverage block_of s.used a)) [
      | inl some ↦
          let (u, j, u_low, u_high) = coverage-some block_of s.used a some in
          let home = lies_in_chunk s (tiling_of w) u.block (omega arith) (IsPart-used s (tiling_of w) u j) in
          let (c, i, from, c_low, c_high, to) = row a low high in
          let home_from = home.from in
          let home_to = home.to in
          let same : home.chunk ≡ c =
          coverage-unique itself home.chunk c s.chunks a (w.disjoint a) home.is_chunk i (covers-inside home.chunk a (omega arith) (omega arith))
          (covers-inside c a c_low c_high) in
          let start : home.chunk.start ≡ c.start = ap (λ x. x.start) {x = home.chunk} same in
          let end : end_of home.chunk ≡ end_of c = ap end_of {x = home.chunk} same in
          let b : Block = record { range = u.block; is_occupied = true } in
          absurd (none b ((are.exactly b).1 (used u j refl refl, omega arith, omega arith)) refl)
      | inr few ↦ omega arith
    ]

  -- ---- from chunk to chunk

  module _ (r : Range) (len : ℕ) (is : IsPool s r len) where
    module _ (a : ℕ) (edge : IsEdge s r len a) (more : a + 64 ≤ end_of r) where
      -- so a chunk begins there, where there is room for one
      pub chunk_at : (c : Range) × IsIn c s.chunks × (c.start ≡ a) × (end_of c ≤ r.start + len)
      chunk_at =
          let edge_from = edge.from in
          let nearly = is.nearly in
          let (c, i, from, low, high, to) = is.row a (omega arith) (omega arith) in
          elim (cases_lt c.start a) [
            | inl before ↦ absurd (omega (arith, edge.parted c i (omega arith) before))
            | inr at ↦ (c, i, omega arith, omega arith)
          ]

      -- and where it ends is the next such address
      pub IsEdge-next : IsEdge s r len (end_of chunk_at.0)
      IsEdge-next =
          let edge_from = edge.from in
          let (c, i, at, to) = chunk_at in
          let room = (w.chunks c i).has_room in
          record {
            from = omega arith;
            to = to;
            parted = λ d j low high. elim (cases_lt d.start a) [
              | inl before ↦ omega (arith, edge.parted d j low before)
              | inr behind ↦
                  let same : d ≡ c =
                  coverage-unique itself d c s.chunks d.start (w.disjoint d.start) j i (covers-inside d d.start (omega arith) (omega (arith, (w.chunks d j).has_room)))
                  (covers-inside c d.start (omega arith) high) in
                  let end : end_of d ≡ end_of c = ap end_of {x = d} same in
                  omega arith
            ];
          }

    -- where there is none left, it is the row's end
    pub IsEdge-end : (a : ℕ) → IsEdge s r len a → end_of r < a + 64 → a ≡ r.start + len
    IsEdge-end a edge short = elim (cases_lt a (r.start + len)) [
      | inl before ↦
          let edge_from = edge.from in
          let within = is.within in
          let (c, i, from, low, high, to) = is.row a (omega arith) (omega arith) in
          let room = (w.chunks c i).has_room in
          elim (cases_lt c.start a) [
            | inl early ↦ absurd (omega (arith, edge.parted c i (omega arith) early))
            | inr at ↦ absurd (omega arith)
          ]
      | inr past ↦ omega (arith, edge.to)
    ]
