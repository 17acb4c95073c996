-- The laws of free ranges.
use Rattle.std.proofs.Common.{◌≡◌, ℕ, ◌+◌, ◌-◌, ◌<◌, ◌≤◌, Bool, false, cond, List, [], ◌∷◌, ◌++◌, Some, find, true≢false, arith, refl}
use Rattle.std.proofs.Common.{sym, ◌∙◌, ap, subst, inl, inr}
use Rattle.std.proofs.lemmas.Bool.{cases_lt}
use Rattle.rlsf_base.specs.declared.memory.range.Range.{Range}
use Rattle.rlsf_base.specs.Range.{end_of}
use Rattle.rlsf_model_sizes.specs.SizeClass.{class_of}
use Rattle.rlsf_model_sizes.specs.Sizes.{request_size}
use Rattle.rlsf_base.proofs.SizeClasses.Reach.{Reaches-from_slack}
use Rattle.rlsf_model.specs.Allocate.{choice, has_class}
use Rattle.rlsf_model.specs.Insert.{body}
use Rattle.rlsf_model.specs.Laws.{RoomIsFound, AllocationAnswers, RefusedWithoutReach, ChoiceIsFirstOfLeast, IdleChunkIsOneRange}
use Rattle.rlsf_model.specs.Lists.{IsIn, without}
use Rattle.rlsf_model.specs.Remove.{IsIdle}
use Rattle.rlsf_model.specs.State.{State}
use Rattle.rlsf_model.specs.WellFormed.{covers, coverage, itself, last_bytes, IsWellFormed}
use Rattle.rlsf_model.proofs.Choices.{choice-some, choice-none, choice-from_none, has_class-from}
use Rattle.rlsf_model.proofs.Coverage.{by_test, covers-inside, coverage-IsIn, coverage-some, coverage-unique}
use Rattle.rlsf_model.proofs.Examples.{address, allocate_after, allocate_step}
use Rattle.rlsf_model.proofs.Tiling.{tiling_of, free-le, lies_in_chunk, IsPart-free}

pub room_is_found : RoomIsFound
room_is_found fllen sllen memory s t size align reply f w i slack step is = grind (arith, choice-none, Reaches-from_slack)

pub refused_without_reach : RefusedWithoutReach
refused_without_reach sllen size free = (choice-none sllen size free, choice-from_none sllen size free)

-- what a test finds is behind elements that fail it
find-split : (p : Range → Bool) (f : Range) (xs : List Range) → find p xs ≡ Some f
    → (before : List Range) × (after : List Range) × (xs ≡ before ++ f ∷ after) × ((g : Range) → IsIn g before → p g ≡ false) × (without p xs ≡ before ++ after)
find-split p f [] e = absurd (cc)
find-split p f (x ∷ xs) e = by_test (p x)
    (λ here. let same : Some x ≡ Some f = sym (ap (λ b. cond b (Some x) (find p xs)) here) ∙ e in let is : x ≡ f = cc in
    ([], xs, ap (λ y. y ∷ xs) is, (λ g i. absurd i), ap (λ b. cond b xs (x ∷ without p xs)) here))
    (λ fails. let (front, back, place, others, left) = find-split p f xs (sym (ap (λ b. cond b (Some x) (find p xs)) fails) ∙ e) in (
      x ∷ front,
      back,
      ap (λ l. x ∷ l) place,
      (λ g. elim [ inl same ↦ ap p same ∙ fails | inr i ↦ others g i ]),
      ap (λ b. cond b xs (x ∷ without p xs)) fails ∙ ap (λ l. x ∷ l) left,
    ))

pub choice_is_first_of_least : ChoiceIsFirstOfLeast
choice_is_first_of_least sllen size free f chosen =
    let is = choice-some sllen size free f chosen in
    let c = class_of sllen f.len in
    let (front, back, place, others, left) = find-split (has_class sllen c) f free is.found in (
      record { before = front; after = back; place = place; others = λ g i same. true≢false (sym (has_class-from sllen c g same) ∙ others g i); left = left },
      is.reached,
      is.least,
    )

-- ---- an idle chunk

module _ {fllen sllen : ℕ} {memory : Range} {s : State} (w : IsWellFormed fllen sllen memory s) (c : Range) (idle : IsIdle s c) (h : IsIn c s.chunks) where
  -- a free range has each address of the chunk but its last 32 bytes
  free_at : (a : ℕ) → c.start ≤ a → a < end_of c - 32 → (f : Range) × IsIn f s.free × (f.start ≤ a) × (a < end_of f)
  free_at a low high =
      let none = idle a low (omega arith) in
      let one : covers c a ≡ 1 = covers-inside c a low (omega arith) in
      let no_last : coverage last_bytes s.chunks a ≡ 0 = elim (cases_lt (coverage last_bytes s.chunks a) 1) [
        | inl zero ↦ omega arith
        | inr some ↦
            let (d, i, from, to) = coverage-some last_bytes s.chunks a some in
            let room = (w.chunks d i).has_room in
            let same : d ≡ c = coverage-unique itself d c s.chunks a (w.disjoint a) i h (covers-inside d a (omega arith) (omega arith)) one in
            let start : d.start ≡ c.start = ap (λ r. r.start) same in
            let len : d.len ≡ c.len = ap (λ r. r.len) same in
            absurd (omega arith)
      ] in
      coverage-some itself s.free a (omega (arith, w.tiled a, coverage-IsIn itself c s.chunks a h))

  -- a free range that begins in the chunk lies in it
  lies_in : (f : Range) → IsIn f s.free → covers c f.start ≡ 1 → (c.start ≤ f.start) × (end_of f + 32 ≤ end_of c)
  lies_in f i begins =
      let some = (w.free f i).some in
      let home = lies_in_chunk s (tiling_of w) f some (IsPart-free s (tiling_of w) f i) in
      let from = home.from in
      let to = home.to in
      let same : home.chunk ≡ c =
      coverage-unique itself home.chunk c s.chunks f.start (w.disjoint f.start) home.is_chunk h (covers-inside home.chunk f.start from (omega arith)) begins in
      let start : home.chunk.start ≡ c.start = ap (λ r. r.start) same in
      let len : home.chunk.len ≡ c.len = ap (λ r. r.len) same in
      (omega arith, omega arith)

  -- the free range at the chunk's start goes on to its last 32 bytes
  whole : (f : Range) → IsIn f s.free → f.start ≤ c.start → c.start < end_of f → f ≡ body c
  whole f i low high =
      let room = (w.chunks c h).has_room in
      let some = (w.free f i).some in
      let home = lies_in_chunk s (tiling_of w) f some (IsPart-free s (tiling_of w) f i) in
      let from = home.from in
      let to = home.to in
      let same : home.chunk ≡ c =
      coverage-unique itself home.chunk c s.chunks c.start (w.disjoint c.start) home.is_chunk h (covers-inside home.chunk c.start (omega arith) (omega arith))
      (covers-inside c c.start (omega arith) (omega arith)) in
      let start : home.chunk.start ≡ c.start = ap (λ r. r.start) same in
      let len : home.chunk.len ≡ c.len = ap (λ r. r.len) same in
      let begins : f.start ≡ c.start = omega arith in
      let ends : f.len ≡ c.len - 32 = elim (cases_lt (end_of f) (end_of c - 32)) [
        | inl short ↦
            let (g, j, g_low, g_high) = free_at (end_of f) (omega arith) short in
            let apart = w.apart f g i j in
            elim (cases_lt g.start (end_of f)) [
              | inl overlaps ↦
                  let g_some = (w.free g j).some in
                  let both : g ≡ f = elim (cases_lt g.start f.start) [
                    | inl earlier ↦ coverage-unique itself g f s.free f.start (free-le s (tiling_of w) f.start) j i (covers-inside g f.start (omega arith) (omega arith))
                        (covers-inside f f.start (omega arith) (omega arith))
                    | inr later ↦ coverage-unique itself g f s.free g.start (free-le s (tiling_of w) g.start) j i (covers-inside g g.start (omega arith) (omega arith))
                        (covers-inside f g.start (omega arith) (omega arith))
                  ] in
                  let g_end : end_of g ≡ end_of f = ap end_of both in
                  absurd (omega arith)
              | inr at ↦ absurd (apart (omega arith))
            ]
        | inr long ↦ omega arith
      ] in
      λ k. record { start = begins k; len = ends k }

pub idle_chunk_is_one_range : IdleChunkIsOneRange
idle_chunk_is_one_range fllen sllen memory s c w idle h =
    let room = (w.chunks c h).has_room in
    let (f, i, low, high) = free_at w c idle h c.start (omega arith) (omega arith) in
    let is : f ≡ body c = whole w c idle h f i low high in (
      subst (λ x. IsIn x s.free) is i,
      λ g j begins.
          let g_in = lies_in w c idle h g j begins in
          let g_some = (w.free g j).some in
          let f_in = subst (λ x. IsIn x s.free) is i in
          let one : covers (body c) g.start ≡ 1 = covers-inside (body c) g.start (omega (arith, g_in.0)) (omega (arith, g_in.1)) in
          coverage-unique itself g (body c) s.free g.start (free-le s (tiling_of w) g.start) j f_in (covers-inside g g.start (omega arith) (omega arith)) one,
    )

pub allocation_answers : AllocationAnswers
allocation_answers sllen s size align =
    let o = choice sllen (request_size size align) s.free in
    (address align o, allocate_after sllen s size align [] o, allocate_step sllen s size align [] o refl)
