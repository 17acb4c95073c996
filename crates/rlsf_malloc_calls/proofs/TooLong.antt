-- A payload that is too long for every chunk is refused.
use Rattle.std.proofs.Common.{◌≡◌, ℕ, ◌+◌, ◌*◌, ◌^◌, ◌<◌, ◌-◌, None, arith, refl, sym, subst, pow-add}
use Rattle.rlsf_model_sizes.specs.Sizes.{request_size}
use Rattle.rlsf_base.proofs.Numbers.Roundings.{round32-le}
use Rattle.rlsf_base.proofs.SizeClasses.Reach.{IsValidClass-class_of, Reaches-class_of}
use Rattle.rlsf_model.specs.Allocate as machine
use Rattle.rlsf_model.proofs.Choices.{choice-from_none}
use Rattle.rlsf_heap.specs.Heap.{HeapView, PayloadView, Stands}
use Rattle.rlsf_heap.specs.Thin.{reply_of}
use Rattle.rlsf_malloc_calls.specs.Calls.{AllocatesPayload, IsReady}
use Rattle.rlsf_malloc_calls.proofs.Outcomes.{itself_heap}

module _ (fllen sllen : ℕ) (v : HeapView) (stands : Stands fllen sllen v) (size align : ℕ) (long : 2 ^ (5 + fllen) < size + 48) where
  -- no free block is long enough
  no_choice : machine.choice sllen (request_size size align) v.state.free ≡ None
  unfolding Stands
  no_choice = choice-from_none sllen (request_size size align) v.state.free (λ g i reached.
      let free = stands.free g i in
      let enough = Reaches-class_of sllen g.len free.some (request_size size align) stands.row_length reached in
      let below : g.len < 2 ^ (5 + fllen) = (IsValidClass-class_of sllen g.len free.some fllen).0 free.valid in
      let whole : 2 ^ (5 + fllen) ≡ 32 * 2 ^ fllen = pow-add 2 5 fllen in
      omega (arith, round32-le (size + (align - 16) + 16), free.whole.len))

  pub refused : (p : PayloadView) → p.start ≡ 0 → IsReady v → AllocatesPayload sllen v size align p v
  refused p none ready = record {
    no_layout = λ never. none;
    step = λ layout. subst (λ n. machine.Allocates sllen v.state size align (reply_of n) v.state) (sym none) (no_choice, refl);
    heap = itself_heap v ready;
    at = record { start = refl; heap = λ some. absurd (some none); written = λ some. absurd (some none) };
    new = λ some. absurd (some none);
    sized = λ some. absurd (some none);
    aligns = λ a apart. refl;
    count = λ some. absurd (some none);
    chunks = refl;
    same = λ e. refl;
  }
