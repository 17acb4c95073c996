use Rattle.std.proofs.Common.{length, refl, ap, ◌∙◌}
use Rattle.rlsf_base.specs.LendsPiece.{lent_piece}
use Rattle.rlsf_base.proofs.Lending.Refilled.{refilled-here, refilled-left, refilled-long}
use Rattle.rlsf_heap.specs.Heap.{PayloadView}
use Rattle.rlsf_heap.specs.Lends.{rewritten}
use Rattle.rlsf_heap.proofs.payload.Payload.as_mut_slice.Goals as goal

pub returns : goal.returns
unfolding rewritten lent_piece
returns c =
    let p = c.args.self.now in
    let value = c.as_mut_slice.ensures.value ∙ ap (λ (v : PayloadView). v.bytes) c.self.view_is in (
      (refl, λ w. ap (λ (v : PayloadView). rewritten v w) c.self.view_is),
      record {
        writes_back = tt;
        value = value;
        filled = λ w long. refilled-left p.bytes w (long ∙ ap length value);
        left = λ w. record { long = refilled-long p.bytes w; written = refilled-here p.bytes w p.out c.requires; identity = refl; start = refl; align = refl };
      },
    )
