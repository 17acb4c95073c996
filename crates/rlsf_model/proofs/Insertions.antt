-- Inserting memory as chunks of its own leaves a state well-formed.
use Rattle.std.proofs.Common.{◌≡◌, ℕ, ◌+◌, ◌-◌, ◌<◌, ◌≤◌, List, Option, arith, sym, ◌∙◌, ap, subst, inl, inr, [], ◌∷◌, refl}
use Rattle.rlsf_base.specs.declared.memory.range.Range.{Range}
use Rattle.rlsf_base.specs.Range.{end_of}
use Rattle.rlsf_model_sizes.specs.Sizes.{max_pool_size}
use Rattle.rlsf_base.proofs.SizeClasses.Reach.{IsValidClass-class_of}
use Rattle.rlsf_model.specs.Insert.{cut, aligned_part, body, with_chunks, IsFresh, Inserts}
use Rattle.rlsf_model.specs.Lists.{IsIn}
use Rattle.rlsf_model.specs.State.{State}
use Rattle.rlsf_model.specs.WellFormed.{covers, coverage, itself, last_bytes, IsWhole, IsChunk, IsWellFormed}
use Rattle.rlsf_model.proofs.Coverage.{inside, before, behind, where_is, covers-inside, coverage-unique}
use Rattle.rlsf_model.proofs.Cuts.{IsIn-cut, coverage-cut, covers-body}
use Rattle.rlsf_model.proofs.Tiling.{blocks, IsTiled, lies_in_chunk, apart_from_last, IsPart-free, IsWellFormed-from}
use Rattle.rlsf_model.proofs.Names.{with_chunk}

pub IsWhole-aligned_part : (r : Range) → IsWhole (aligned_part r)
IsWhole-aligned_part r = record { start = omega arith; len = omega arith }

-- new chunks that are sound, where no old one is
pub record AreNew (fllen sllen : ℕ) (memory : Range) (s : State) (cs : List Range) : Type 0 where
  pub chunk : (c : Range) → IsIn c cs → IsChunk fllen sllen memory c
  pub apart : (a : ℕ) → coverage itself cs a + coverage itself s.chunks a ≤ 1

-- one more chunk, where no old one is
pub IsWellFormed-with_chunk : {fllen sllen : ℕ} {memory : Range} {s : State} → IsWellFormed fllen sllen memory s → (c : Range) → IsChunk fllen sllen memory c
    → ((a : ℕ) → covers c a + coverage itself s.chunks a ≤ 1) → IsWellFormed fllen sllen memory (with_chunk c s)
IsWellFormed-with_chunk {fllen} {sllen} {memory} {s} w c chunk clear =
    let t = with_chunk c s in
    let room = chunk.has_room in
    let chunks : (d : Range) → IsIn d (c ∷ s.chunks) → IsChunk fllen sllen memory d =
    λ d. elim [ inl same ↦ subst (IsChunk fllen sllen memory) (sym same) chunk | inr i ↦ w.chunks d i ] in
    let tiled : (a : ℕ) → blocks t a + coverage last_bytes (c ∷ s.chunks) a ≡ coverage itself (c ∷ s.chunks) a = λ a. omega (arith, covers-body c a room, w.tiled a) in
    let tiles : IsTiled t = record { room = λ d h. (chunks d h).has_room; disjoint = clear; tiled = tiled } in
    let whole : (f : Range) → IsIn f (body c ∷ s.free) → IsWhole f × (0 < f.len) = λ f. elim [
      | inl is ↦ subst (λ g. IsWhole g × (0 < g.len)) (sym is) (record { start = chunk.whole.start; len = omega (arith, chunk.whole.len) }, omega arith)
      | inr i ↦ let free = w.free f i in (free.whole, free.some)
    ] in
    IsWellFormed-from (record {
      rows = w.rows;
      row_length = w.row_length;
      addressable = w.addressable;
      chunks = chunks;
      used = w.used;
      whole = whole;
      disjoint = clear;
      tiled = tiled;
      apart = λ f g hf hg touch.
          let f_some = (whole f hf).1 in
          let g_some = (whole g hg).1 in
          let f_part = IsPart-free t tiles f hf in
          let g_part = IsPart-free t tiles g hg in
          elim hf [
            | inl f_is ↦
                let f_end : end_of f ≡ end_of c - 32 = ap end_of f_is ∙ omega arith in
                apart_from_last t tiles g c (end_of f) g_part (inl refl) (omega arith) (omega arith) (omega arith) (omega arith)
            | inr i ↦ elim hg [
              | inl g_is ↦
                  let g_start : g.start ≡ c.start = ap (λ r. r.start) g_is in
                  let home = lies_in_chunk t tiles f f_some f_part in
                  let from = home.from in
                  let to = home.to in
                  let same : home.chunk ≡ c = coverage-unique itself home.chunk c (c ∷ s.chunks) (end_of f) (clear (end_of f)) home.is_chunk (inl refl)
                  (covers-inside home.chunk (end_of f) (omega arith) (omega arith)) (covers-inside c (end_of f) (omega arith) (omega arith)) in
                  let start : home.chunk.start ≡ c.start = ap (λ r. r.start) {x = home.chunk} same in
                  omega arith
              | inr j ↦ w.apart f g i j touch
            ]
          ];
    })

pub IsWellFormed-with_chunks : {fllen sllen : ℕ} {memory : Range} (cs : List Range) (s : State) → IsWellFormed fllen sllen memory s → AreNew fllen sllen memory s cs
    → IsWellFormed fllen sllen memory (with_chunks cs s)
IsWellFormed-with_chunks [] s w new = w
IsWellFormed-with_chunks (c ∷ cs) s w new =
    IsWellFormed-with_chunks cs (with_chunk c s) (IsWellFormed-with_chunk w c (new.chunk c (inl refl)) (λ a. omega (arith, new.apart a)))
    (record { chunk = λ d i. new.chunk d (inr i); apart = λ a. omega (arith, new.apart a) })

module _ {fllen sllen : ℕ} {memory : Range} {s : State} (w : IsWellFormed fllen sllen memory s) (r : Range) (fresh : IsFresh memory s r) where
  -- the chunks that the aligned part is cut into are new
  pub AreNew-cut : AreNew fllen sllen memory s (cut (max_pool_size fllen) (aligned_part r))
  AreNew-cut =
      let part = aligned_part r in
      let (from, to) = fresh.lies_in in
      let part_whole = IsWhole-aligned_part r in
      let limit : (0 < part.len) → end_of part ≤ end_of r = λ some. omega arith in
      let addressable = w.addressable in
      record {
        chunk = λ c h.
            let piece = IsIn-cut part part_whole fllen w.rows (λ some. omega arith) c h in
            let inside_r = limit (omega (arith, piece.from, piece.to, piece.room)) in
            record {
              whole = piece.whole;
              lies_in = (omega (arith, piece.from), omega (arith, piece.to));
              has_room = piece.room;
              valid = (IsValidClass-class_of sllen (c.len - 32) (omega (arith, piece.room)) fllen).1 (omega (arith, piece.short, piece.room));
            };
        apart = λ a. elim (where_is part a) [
          | inside one low high ↦
              let inside_r = limit (omega arith) in
              omega (arith, coverage-cut part part_whole (max_pool_size fllen) a, fresh.apart a (omega arith) (omega arith))
          | before none low ↦ omega (arith, coverage-cut part part_whole (max_pool_size fllen) a, w.disjoint a)
          | behind none high ↦ omega (arith, coverage-cut part part_whole (max_pool_size fllen) a, w.disjoint a)
        ];
      }

  -- an insertion keeps a state well-formed
  pub Inserts-keeps : (reply : Option ℕ) (t : State) → Inserts fllen s r reply t → IsWellFormed fllen sllen memory t
  Inserts-keeps reply t step = subst (IsWellFormed fllen sllen memory) (sym step.after) (IsWellFormed-with_chunks (cut (max_pool_size fllen) (aligned_part r)) s w AreNew-cut)
