-- An allocation leaves a state well-formed.
use Rattle.std.proofs.Common.{◌≡◌, ℕ, ◌-◌, ◌<◌, ◌≤◌, List, ◌∷◌, ◌++◌, Option, Some, None, length, arith, refl, sym, ◌∙◌, ap, subst, inl, inr, ◌+◌}
use Rattle.rlsf_base.specs.declared.memory.range.Range.{Range}
use Rattle.rlsf_model_sizes.specs.PowerOfTwo.{IsPowerOfTwo}
use Rattle.rlsf_base.specs.Range.{end_of}
use Rattle.rlsf_model_sizes.specs.SizeClass.{class_of}
use Rattle.rlsf_model_sizes.specs.Sizes.{request_size}
use Rattle.rlsf_model_sizes.specs.Rounding.{round32}
use Rattle.rlsf_base.proofs.SizeClasses.Reach.{Reaches-class_of}
use Rattle.rlsf_model.specs.Allocate.{has_class, choice, rest_behind, placed, given, Allocates}
use Rattle.rlsf_model.specs.Lists.{IsIn, without}
use Rattle.rlsf_model.specs.Payload.{payload_of}
use Rattle.rlsf_model.specs.State.{State}
use Rattle.rlsf_model.specs.WellFormed.{itself, IsWhole, IsUsed, IsWellFormed}
use Rattle.rlsf_model.proofs.Changes.{reblocked, coverage-rest_behind, IsIn-rest_behind, IsApart-rest_behind, IsApart-within}
use Rattle.rlsf_model.proofs.Choices.{choice-some}
use Rattle.rlsf_model.proofs.Coverage.{covers-inside, coverage-append, coverage-without, IsIn-append, IsIn-append_swap, IsIn-without}
use Rattle.rlsf_model.proofs.Payloads.{payload_of-after, block_length-request, IsUsed-some}
use Rattle.rlsf_model.proofs.Tiling.{tiling_of, free-le}

module _ {fllen sllen : ℕ} {memory : Range} {s : State} (w : IsWellFormed fllen sllen memory s) (f : Range) (size align : ℕ) (power : IsPowerOfTwo align)
    (chosen : choice sllen (request_size size align) s.free ≡ Some f) where
  -- the block fits in the range
  pub placed-fits : round32 (payload_of f.start align - f.start + size) ≤ f.len
  placed-fits =
      let is = choice-some sllen (request_size size align) s.free f chosen in
      let free = w.free f is.is_in in
      omega (arith, block_length-request f.start size align free.whole.start power, Reaches-class_of sllen f.len free.some (request_size size align) w.row_length is.reached)

  pub IsUsed-placed : (bytes : List ℕ) → length bytes ≡ end_of (placed f size align bytes).block - payload_of f.start align → IsUsed (placed f size align bytes)
  IsUsed-placed bytes len =
      let is = choice-some sllen (request_size size align) s.free f chosen in
      let free = w.free f is.is_in in
      record {
        whole = record { start = free.whole.start; len = omega arith };
        power = power;
        placed = refl;
        within = omega (arith, payload_of-after f.start align);
        bytes = len;
      }

  pub IsWellFormed-given : (bytes : List ℕ) → length bytes ≡ end_of (placed f size align bytes).block - payload_of f.start align
      → IsWellFormed fllen sllen memory (given sllen s f (placed f size align bytes))
  IsWellFormed-given bytes len =
      let is = choice-some sllen (request_size size align) s.free f chosen in
      let test = has_class sllen (class_of sllen f.len) in
      let f_whole = (w.free f is.is_in).whole in
      let u = placed f size align bytes in
      let rest = without (has_class sllen (class_of sllen f.len)) s.free in
      let fits = placed-fits in
      let u_used : IsUsed u = IsUsed-placed bytes len in
      let some = IsUsed-some u u_used in
      let out = λ (a : ℕ). coverage-without itself (has_class sllen (class_of sllen f.len)) f s.free a is.found in
      let cut = λ (a : ℕ). coverage-rest_behind u.block (end_of f) f a (omega arith) refl refl in
      let either_order : (g : Range) → IsIn g (given sllen s f u).free → IsIn g (rest_behind u.block (end_of f) ++ rest) =
      λ g h. first_of (assumption, search IsIn-append_swap) in
      reblocked w (u ∷ s.used) (given sllen s f u).free
      (λ v. elim [ inl same ↦ subst IsUsed (sym same) u_used | inr i ↦ w.used v i ])
      (λ g h. elim (IsIn-append g (rest_behind u.block (end_of f)) rest (either_order g h)) [
        | inl i ↦ let (g_is, less) = IsIn-rest_behind u.block (end_of f) g i in
            subst (λ x. IsWhole x × (0 < x.len)) (sym g_is) (
              record { start = omega (arith, u_used.whole.start, u_used.whole.len); len = omega (arith, u_used.whole.start, u_used.whole.len, f_whole.start, f_whole.len) },
              omega arith,
            )
        | inr j ↦ let free = w.free g (IsIn-without test g s.free j) in (free.whole, free.some)
      ])
      (λ a. omega (arith, out a, cut a, coverage-append itself (rest_behind u.block (end_of f)) rest a, coverage-append itself rest (rest_behind u.block (end_of f)) a))
      (IsApart-within _ _ either_order (IsApart-rest_behind u.block (end_of f) rest some
      (λ g h i j. w.apart g h (IsIn-without test g s.free i) (IsIn-without test h s.free j))
      (λ g i. (w.free g (IsIn-without test g s.free i)).some)
      (λ g i. w.apart f g is.is_in (IsIn-without test g s.free i))
      (λ a low high. omega (arith, out a, free-le s (tiling_of w) a, covers-inside f a low high))))

-- an allocation keeps a state well-formed, whatever its reply
pub Allocates-keeps : {fllen sllen : ℕ} {memory : Range} {s : State} → IsWellFormed fllen sllen memory s → (size align : ℕ) (reply : Option ℕ) (t : State)
    → IsPowerOfTwo align
    → Allocates sllen s size align reply t → IsWellFormed fllen sllen memory t
Allocates-keeps {fllen} {sllen} {memory} w size align None t power step = subst (IsWellFormed fllen sllen memory) (sym step.1) w
Allocates-keeps {fllen} {sllen} {memory} w size align (Some addr) t power step =
    subst (IsWellFormed fllen sllen memory) (sym step.after)
    (IsWellFormed-given w step.range size align power step.chosen step.bytes (step.length ∙ ap (λ p. end_of (placed step.range size align step.bytes).block - p) step.answer))
