-- The plans of a reallocation: where a block and its payload can go.
use Rattle.std.specs.Option.{option_or, option_map_or, option_and_then}
use Rattle.std.proofs.Common.{◌≡◌, ◌≢◌, ℕ, ◌+◌, ◌-◌, ◌%◌, ◌<◌, ◌≤◌, ◌⊎◌, Bool, true, cond, leb, List, [], ◌∷◌, ◌++◌}
use Rattle.std.proofs.Common.{Option, Some, None, find, length, arith, refl, sym, ap, subst, inl, inr}
use Rattle.std.proofs.lemmas.Bool.Decides.{nat_tests}
use Rattle.std.proofs.lemmas.Bool.{cases_lt, lt-ltb, le-ltb, leb-true}
use Rattle.rlsf_base.specs.declared.memory.range.Range.{Range}
use Rattle.rlsf_base.specs.Range.{end_of}
use Rattle.rlsf_model.specs.Allocate.{rest_behind}
use Rattle.rlsf_model.specs.Join.{join, ends_at, starts_at}
use Rattle.rlsf_model.specs.Lists.{IsIn, without}
use Rattle.rlsf_model.specs.Payload.{payload_of, block_for}
use Rattle.rlsf_model.specs.Reallocate.{Plan, in_place, into_next, into_previous, plan}
use Rattle.rlsf_model.specs.State.{State, Used, between, others}
use Rattle.rlsf_model.specs.WellFormed.{covers, coverage, itself, IsWhole, IsUsed, IsWellFormed}
use Rattle.rlsf_model.proofs.Changes.{reblocked, coverage-others, IsIn-others, coverage-rest_behind, IsIn-rest_behind, IsApart-rest_behind}
use Rattle.rlsf_model.proofs.Coverage.{covers-inside, covers-split, coverage-append, coverage-IsIn, IsIn-append}
use Rattle.rlsf_model.proofs.Joins.{IsSound, IsSound-without, IsLeft, left_of, right_of, coverage-join, IsSound-join}
use Rattle.rlsf_model.proofs.Payloads.{payload_of-after, IsUsed-after_start}
use Rattle.rlsf_model.proofs.Releases.{IsSound-free}
use Rattle.rlsf_model.proofs.Tiling.{block_of, tiling_of, blocks-le}
use Rattle.rlsf_model.proofs.Names.{resized, moved, replanned, tail_joined, previous_plan}

-- a plan that leaves a state well-formed, and whose payload has the size asked
pub record IsSoundPlan (s : State) (u : Used) (size : ℕ) (p : Plan) : Type 0 where
  pub whole : IsWhole p.block
  pub placed : p.payload ≡ payload_of p.block.start u.align
  pub within : p.payload ≤ end_of p.block
  pub sound : IsSound p.free
  pub cover : (a : ℕ) → covers p.block a + coverage itself p.free a ≡ covers u.block a + coverage itself s.free a
  pub enough : size ≤ end_of p.block - p.payload
  pub few : end_of p.block - p.payload < size + 32

module _ {fllen sllen : ℕ} {memory : Range} {s : State} (w : IsWellFormed fllen sllen memory s) (u : Used) (h : IsIn u s.used) (size : ℕ) where
  -- a block at its own start, whose end is known not to be past another one
  in_place_sound : end_of (resized u size) ≤ end_of u.block
      → IsSoundPlan s u size (record { block = resized u size; payload = u.payload; free = tail_joined (resized u size) (end_of u.block) s.free })
  in_place_sound fits =
      let is = w.used u h in
      let whole = is.whole in
      let start = IsUsed-after_start u is in
      let within = is.within in
      let block = resized u size in
      let block_whole : IsWhole block = record { start = whole.start; len = omega arith } in
      let base = IsSound-free w in
      let tail = between (end_of block) (end_of u.block) in
      let split = λ (a : ℕ). coverage-rest_behind block (end_of u.block) u.block a fits refl refl in
      let made : IsSound (tail_joined block (end_of u.block) s.free)
      × ((a : ℕ) → coverage itself (tail_joined block (end_of u.block) s.free) a ≡ coverage itself (rest_behind block (end_of u.block)) a + coverage itself s.free a) =
      elim (cases_lt (end_of block) (end_of u.block)) [
        | inl less ↦
            let tail_whole : IsWhole tail = record { start = omega (arith, whole.start, block_whole.len); len = omega (arith, whole.start, whole.len, block_whole.len) } in
            let some : 0 < tail.len = omega arith in
            let is_joined : tail_joined block (end_of u.block) s.free ≡ join tail s.free =
            ap (λ b. cond b (join tail s.free) s.free) (lt-ltb (end_of block) (end_of u.block) less) in
            let is_rest : rest_behind block (end_of u.block) ≡ tail ∷ [] = ap (λ b. cond b (tail ∷ []) []) (lt-ltb (end_of block) (end_of u.block) less) in (
              subst IsSound (sym is_joined) (IsSound-join tail s.free tail_whole some base),
              λ a. let one : coverage itself (rest_behind block (end_of u.block)) a ≡ covers tail a + 0 = ap (λ l. coverage itself l a) is_rest in
                  let all : coverage itself (tail_joined block (end_of u.block) s.free) a ≡ coverage itself (join tail s.free) a = ap (λ l. coverage itself l a) is_joined in
                  omega (arith, coverage-join tail s.free tail_whole some base a),
            )
        | inr same ↦
            let is_free : tail_joined block (end_of u.block) s.free ≡ s.free = ap (λ b. cond b (join tail s.free) s.free) (le-ltb (end_of block) (end_of u.block) same) in
            let is_rest : rest_behind block (end_of u.block) ≡ [] = ap (λ b. cond b (tail ∷ []) []) (le-ltb (end_of block) (end_of u.block) same) in (
              subst IsSound (sym is_free) base,
              λ a. let none : coverage itself (rest_behind block (end_of u.block)) a ≡ 0 = ap (λ l. coverage itself l a) is_rest in
                  let all : coverage itself (tail_joined block (end_of u.block) s.free) a ≡ coverage itself s.free a = ap (λ l. coverage itself l a) is_free in
                  omega arith,
            )
      ] in
      record {
        whole = block_whole;
        placed = is.placed;
        within = omega arith;
        sound = made.0;
        cover = λ a. omega (arith, split a, made.1 a);
        enough = omega arith;
        few = omega arith;
      }

  -- what is free once a block takes the front of a span, which no other free range adjoins on its right
  span_sound : (block : Range) (end : ℕ) (rest : List Range) → IsWhole block → 0 < block.len → end_of block ≤ end → end % 32 ≡ 0 → IsSound rest
      → ((g : Range) → IsIn g rest → end ≢ g.start) → ((a : ℕ) → block.start ≤ a → a < end → coverage itself rest a ≡ 0)
      → IsSound (rest_behind block end ++ rest)
  span_sound block end rest whole some fits end32 sound starts clear = record {
    whole = λ g i. elim (IsIn-append g (rest_behind block end) rest i) [
      | inl j ↦ let (is, less) = IsIn-rest_behind block end g j in
          subst (λ x. IsWhole x × (0 < x.len)) (sym is) (record { start = omega (arith, whole.start, whole.len); len = omega (arith, whole.start, whole.len) }, omega arith)
      | inr j ↦ sound.whole g j
    ];
    apart = IsApart-rest_behind block end rest some sound.apart (λ g j. (sound.whole g j).1) starts clear;
  }

  into_next_sound : (let end = option_map_or end_of (find (starts_at (end_of u.block)) s.free) (end_of u.block) in end_of (resized u size) ≤ end
      → IsSoundPlan s u size (record { block = resized u size; payload = u.payload; free = rest_behind (resized u size) end ++ without (starts_at (end_of u.block)) s.free }))
  into_next_sound fits =
      let is = w.used u h in
      let whole = is.whole in
      let after_start = IsUsed-after_start u is in
      let within = is.within in
      let block = resized u size in
      let end = option_map_or end_of (find (starts_at (end_of u.block)) s.free) (end_of u.block) in
      let rest = without (starts_at (end_of u.block)) s.free in
      let base = IsSound-free w in
      let right = right_of (end_of u.block) s.free (omega (arith, whole.start, whole.len)) base in
      let order = right.order in
      let block_whole : IsWhole block = record { start = whole.start; len = omega arith } in
      let span = between u.block.start end in
      let parts =
      λ (a : ℕ). covers-split u.block.start (end_of u.block) end a (omega arith) order span u.block (between (end_of u.block) end) refl (omega arith) refl refl refl
      (omega arith) in
      let split = λ (a : ℕ). coverage-rest_behind block end span a fits refl (omega arith) in
      record {
        whole = block_whole;
        placed = is.placed;
        within = omega arith;
        sound = span_sound block end rest block_whole (omega arith) fits right.whole (IsSound-without (starts_at (end_of u.block)) s.free base) right.starts
            (λ a low high. omega (arith, right.cover a, parts a, covers-inside span a low (omega arith), blocks-le s (tiling_of w) a, coverage-IsIn block_of u s.used a h));
        cover = λ a. omega (arith, right.cover a, parts a, split a, coverage-append itself (rest_behind block end) rest a);
        enough = omega arith;
        few = omega arith;
      }

  into_previous_sound : (f : Range) → find (ends_at u.block.start) s.free ≡ Some f
      → (let rest = without (ends_at u.block.start) s.free in
      let end = option_map_or end_of (find (starts_at (end_of u.block)) rest) (end_of u.block) in
      let block = block_for f.start (payload_of f.start u.align) size in
      end_of block ≤ end → IsSoundPlan s u size
      (record { block = block; payload = payload_of f.start u.align; free = rest_behind block end ++ without (starts_at (end_of u.block)) rest }))
  into_previous_sound f found fits =
      let is = w.used u h in
      let whole = is.whole in
      let after_start = IsUsed-after_start u is in
      let within = is.within in
      let rest = without (ends_at u.block.start) s.free in
      let end = option_map_or end_of (find (starts_at (end_of u.block)) rest) (end_of u.block) in
      let last = without (starts_at (end_of u.block)) rest in
      let payload = payload_of f.start u.align in
      let block = block_for f.start payload size in
      let base = IsSound-free w in
      let left : IsLeft u.block.start s.free (Some f) = subst (IsLeft u.block.start s.free) found (left_of u.block.start s.free whole.start base) in
      let rest_sound = IsSound-without (ends_at u.block.start) s.free base in
      let right = right_of (end_of u.block) rest (omega (arith, whole.start, whole.len)) rest_sound in
      let order = right.order in
      let from = left.order in
      let after = payload_of-after f.start u.align in
      let block_whole : IsWhole block = record { start = left.whole; len = omega arith } in
      let span = between f.start end in
      let first =
      λ (a : ℕ). covers-split f.start u.block.start end a from (omega arith) span (between f.start u.block.start) (between u.block.start end) refl (omega arith) refl
      (omega arith) refl (omega arith) in
      let second =
      λ (a : ℕ). covers-split u.block.start (end_of u.block) end a (omega arith) order (between u.block.start end) u.block (between (end_of u.block) end) refl (omega arith)
      refl refl refl (omega arith) in
      let split = λ (a : ℕ). coverage-rest_behind block end span a fits refl (omega arith) in
      record {
        whole = block_whole;
        placed = refl;
        within = omega arith;
        sound = span_sound block end last block_whole (omega arith) fits right.whole (IsSound-without (starts_at (end_of u.block)) rest rest_sound) right.starts
            (λ a low high. omega (
              arith,
              left.cover a,
              right.cover a,
              first a,
              second a,
              covers-inside span a low (omega arith),
              blocks-le s (tiling_of w) a,
              coverage-IsIn block_of u s.used a h,
            ));
        cover = λ a. omega (arith, left.cover a, right.cover a, first a, second a, split a, coverage-append itself (rest_behind block end) last a);
        enough = omega arith;
        few = omega arith;
      }

  -- a plan that was made is sound
  tested : (b : Bool) (q p : Plan) → (b ≡ true → IsSoundPlan s u size q) → cond b (Some q) None ≡ Some p → IsSoundPlan s u size p
  tested b q p sound e = grind arith

  pub IsSound-in_place : (p : Plan) → in_place s u size ≡ Some p → IsSoundPlan s u size p
  IsSound-in_place p e = grind (arith, nat_tests, tested, in_place_sound)

  pub IsSound-into_next : (p : Plan) → into_next s u size ≡ Some p → IsSoundPlan s u size p
  IsSound-into_next p e = grind (arith, tested, into_next_sound, leb-true)

  pub IsSound-into_previous : (p : Plan) → into_previous s u size ≡ Some p → IsSoundPlan s u size p
  IsSound-into_previous p e = go (find (ends_at u.block.start) s.free) refl e
    where
      go : (o : Option Range) → find (ends_at u.block.start) s.free ≡ o → option_and_then (previous_plan s u size) o ≡ Some p → IsSoundPlan s u size p
      go None found e = absurd (cc)
      go (Some f) found e =
          let rest = without (ends_at u.block.start) s.free in
          let end = option_map_or end_of (find (starts_at (end_of u.block)) rest) (end_of u.block) in
          let block = block_for f.start (payload_of f.start u.align) size in
          tested (leb (end_of block) end)
          (record { block = block; payload = payload_of f.start u.align; free = rest_behind block end ++ without (starts_at (end_of u.block)) rest }) p
          (λ fits. into_previous_sound f found (leb-true (end_of block) end fits)) e

  or_else-some : (q r : Option Plan) (p : Plan) → option_or q r ≡ Some p → (q ≡ Some p) ⊎ (r ≡ Some p)
  or_else-some o r p e = grind arith

  pub IsSound-plan : (p : Plan) → plan s u size ≡ Some p → IsSoundPlan s u size p
  IsSound-plan p e = elim (or_else-some (in_place s u size) (option_or (into_next s u size) (into_previous s u size)) p e) [
    | inl a ↦ IsSound-in_place p a
    | inr b ↦ elim (or_else-some (into_next s u size) (into_previous s u size) p b) [
      | inl a ↦ IsSound-into_next p a
      | inr c ↦ IsSound-into_previous p c
    ]
  ]

  pub IsUsed-moved : (p : Plan) → IsSoundPlan s u size p → (bytes : List ℕ) → length bytes ≡ end_of p.block - p.payload → IsUsed (moved u p bytes)
  IsUsed-moved p sound bytes len =
      record { whole = sound.whole; power = (w.used u h).power; placed = sound.placed; within = sound.within; bytes = len }

  pub IsWellFormed-replanned : (p : Plan) → IsSoundPlan s u size p → (bytes : List ℕ) → length bytes ≡ end_of p.block - p.payload
      → IsWellFormed fllen sllen memory (replanned s u p bytes)
  IsWellFormed-replanned p sound bytes len =
      reblocked w (moved u p bytes ∷ others u.payload s.used) p.free
      (λ v. elim [ inl same ↦ subst IsUsed (sym same) (IsUsed-moved p sound bytes len) | inr i ↦ w.used v (IsIn-others u.payload v s.used i).0 ])
      sound.sound.whole
      (λ a. omega (arith, sound.cover a, coverage-others w u.payload u (h, refl) a))
      sound.sound.apart
