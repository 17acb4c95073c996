-- What was allocated, as seen from another state before, and an address that is a number.
use Rattle.std.proofs.Common.{◌≡◌, ℕ, ◌+◌, Option, Some, None, IfNone, IfSome, IsSome, refl, sym, ◌∙◌, ap}
use Rattle.std.proofs.lemmas.Option.{none-some}
use Rattle.std.specs.declared.num.NonZeroUsize.{NonZeroUsize}
use Rattle.rlsf_base.specs.Addr.{at, reply}
use Rattle.rlsf_model.specs.Callers.{align_at, bytes_at}
use Rattle.rlsf_model.specs.Sized.{live_count}
use Rattle.rlsf_model.specs.State.{State}
use Rattle.rlsf_tlsf.specs.Results.{IsAllocated}

-- what follows from what holds of an answer
pub some_more : {A : Type 0} {P Q : A → Type 0} (o : Option A) → ((x : A) → P x → Q x) → IfSome o P → IfSome o Q
some_more None f p = tt
some_more (Some x) f p = f x p

-- an address was made of the number
pub some_answer : (o : Option NonZeroUsize) (n : ℕ) → reply o ≡ Some n → IsSome o
some_answer None n e = absurd (none-some n e)
some_answer (Some x) n e = refl

-- what holds where nothing is returned
pub where_none : (P : Type 0) (o : Option NonZeroUsize) → reply o ≡ None → IfNone o P → P
where_none P None e holds = holds
where_none P (Some x) e holds = absurd (none-some (at x) (sym e))

-- of a state before in which callers see the same
pub IsAllocated-before : (s t after : State) (size align addr : ℕ) → align_at s ≡ align_at t → bytes_at s ≡ bytes_at t → live_count s ≡ live_count t
    → IsAllocated s after size align addr → IsAllocated t after size align addr
IsAllocated-before s t after size align addr aligns bytes count is = record {
  live = is.live;
  sized = is.sized;
  few = is.few;
  new = sym (ap (λ (f : ℕ → Option ℕ). f addr) aligns) ∙ is.new;
  aligns = λ a apart. is.aligns a apart ∙ ap (λ (f : ℕ → Option ℕ). f a) aligns;
  bytes = λ a apart. is.bytes a apart ∙ ap (λ f. f a) bytes;
  count = is.count ∙ ap (λ (n : ℕ). n + 1) count;
}
