use Rattle.std.proofs.Common.{◌≡◌, ◌+◌, ◌-◌, ◌∙◌, ap, arith, drop, inl, inr, length, length-drop, sym, take}
use Rattle.std.proofs.lemmas.List.{length-take-le}
use Rattle.std.specs.List.{splice}
use Rattle.core.specs.List.{copy_within}
use Rattle.rlsf_base.specs.Out.{kept_at}
use Rattle.rlsf_base.specs.Changes.{came_back}
use Rattle.rlsf_base.specs.Lends.{refilled}
use Rattle.rlsf_base.proofs.Changes.{back-more, here-back}
use Rattle.rlsf_base.proofs.RawBlock.Copies.{up-in_parts}
use Rattle.rlsf_base.proofs.Words.Splices.{length-splice}
use Rattle.rlsf_base.proofs.memory.copying.copy_up.Goals as goal

pub slice_mut-rest-requires : goal.slice_mut-rest-requires
slice_mut-rest-requires c =
    let d = c.args.bytes.now in let e = c.copy_apart.ensures in let lies = c.requires.lies in let by = c.args.by in let len = c.args.len in
    let i = c.args.from + len - d.skip in let rest = drop (c.args.from + len - by - d.skip) d.bytes in
    let full : length (take by rest) ≡ by = length-take-le by rest (omega (arith, lies, length-drop (c.args.from + len - by - d.skip) d.bytes)) in
    let long : length c.copy_apart.new.bytes.bytes ≡ length d.bytes = ap length e.bytes.2 ∙ length-splice d.bytes (take by rest) i by (omega (arith, lies)) full in (
      lies.0 ∙ sym e.bytes.0,
      (
        (omega (arith, lies, e.bytes.1), omega (arith, lies, e.bytes.1, long)),
        λ k lo hi. e.out k
            ∙ here-back d.out i by (c.args.from - d.skip) len c.requires.kept.0 k (omega (arith, lo, e.bytes.1)) (omega (arith, hi, e.bytes.1)),
      ),
    )

pub returns-clause-bytes : goal.returns-clause-bytes
returns-clause-bytes c =
    let d = c.args.bytes.now in let e = c.copy_apart.ensures.bytes in let lies = c.requires.lies in let by = c.args.by in let len = c.args.len in let at = c.args.from - d.skip in
    let now = c.copy_apart.new.bytes in
    let to : c.args.from + len - d.skip ≡ at + len = omega (arith, lies) in
    let from : c.args.from + len - by - d.skip ≡ at + len - by = omega (arith, lies) in
    let first : now.bytes ≡ splice d.bytes (at + len) (at + len + by) (take by (drop (at + len - by) d.bytes)) =
    e.2 ∙ (λ i. splice d.bytes (to i) (to i + by) (take by (drop (from i) d.bytes))) in
    let place : c.args.from - now.skip ≡ at = ap (λ k. c.args.from - k) e.1 in
    let moved : c.copy_within.new.self ≡ copy_within (take len (drop at now.bytes)) 0 (len - by) by =
    c.copy_within.ensures.after ∙ (λ i. copy_within ((c.slice_mut-rest.ensures.value ∙ ap (λ k. take len (drop k now.bytes)) place) i) 0 (len - by) by) in
    let there : at + by ≡ c.args.from + by - d.skip = omega (arith, lies) in
    let bytes =
    (λ i. refilled now.bytes (place i) len (moved i)) ∙ up-in_parts d.bytes now.bytes at by len (omega (arith, lies)) (omega (arith, lies)) first
    ∙ (λ i. splice d.bytes (there i) (there i + len) (take len (drop at d.bytes))) in
    (e.0, e.1, bytes, e.3, e.4)

pub returns-clause-out : goal.returns-clause-out
returns-clause-out c k =
    let d = c.args.bytes.now in let lies = c.requires.lies in let by = c.args.by in let len = c.args.len in let at = c.args.from - d.skip in
    let to : c.args.from + len - d.skip ≡ at + len = omega (arith, lies) in let there : at + by ≡ c.args.from + by - d.skip = omega (arith, lies) in
    c.copy_apart.ensures.out k ∙ ap (λ i. kept_at (came_back i by d.out) k) to ∙ back-more d.out (at + len) by (at + by) len (omega (arith, lies)) (omega arith)
    (λ j lo hi side. elim side [ inl before ↦ c.requires.kept.0 j (omega (arith, lo)) before | inr behind ↦ absurd (omega (arith, hi, behind)) ]) k
    ∙ ap (λ i. kept_at (came_back i len d.out) k) there
