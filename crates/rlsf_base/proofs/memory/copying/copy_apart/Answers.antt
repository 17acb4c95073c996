use Rattle.std.proofs.Common.{◌≡◌, ◌+◌, ◌-◌, ◌≤◌, ◌⊎◌, ◌∙◌, ap, arith, inl, inr, length, sym}
use Rattle.rlsf_base.specs.Out.{is_own, kept_at, out}
use Rattle.rlsf_base.specs.Changes.{came_back}
use Rattle.rlsf_base.proofs.Changes.{back-over, here-beside, shifted-own}
use Rattle.rlsf_base.proofs.Words.Splices.{length-part}
use Rattle.rlsf_base.proofs.memory.copying.copy_apart.Goals as goal

pub slice-requires : goal.slice-requires
slice-requires g c =
    let (is, gone) = c.take_out-part.ensures in let d = c.args.bytes.now in let lies = c.requires.lies in
    let side : (c.args.from - d.skip + c.args.len ≤ c.args.to - d.skip) ⊎ (c.args.to - d.skip + c.args.len ≤ c.args.from - d.skip) = elim c.requires.apart [
      | inl below ↦ inl (omega (arith, below, lies))
      | inr above ↦ inr (omega (arith, above, lies))
    ] in (
      lies.0 ∙ sym gone.0.0,
      (
        (omega (arith, gone.0.1, lies), omega (arith, gone.0.1, ap length gone.0.2, lies)),
        λ k lo hi. ap (λ cs. kept_at cs k) gone.1
            ∙ here-beside out d.out (c.args.to - d.skip) c.args.len (c.args.from - d.skip) c.args.len side c.requires.kept.0 k
            (omega (arith, lo, gone.0.1)) (omega (arith, hi, gone.0.1)),
      ),
    )

pub write_bytes-requires : goal.write_bytes-requires
write_bytes-requires g c =
    let (is, gone) = c.take_out-part.ensures in let lies = c.requires.lies in
    let rest = c.take_out-part.new.self in
    let long : length c.slice.result.now ≡ c.args.len =
    ap length c.slice.ensures ∙ length-part c.args.len (c.args.from - rest.skip) rest.bytes (omega (arith, lies, gone.0.1, ap length gone.0.2)) in
    let d = c.args.bytes.now in let i = c.args.to - d.skip in
    let taken : length c.take_out-part.result.bytes ≡ c.args.len = ap length is.0.2 ∙ length-part c.args.len i d.bytes (omega (arith, lies)) in (
      lies.0 ∙ sym is.0.0,
      is.0.1,
      taken ∙ sym long,
      λ k lo hi. ap (λ cs. is_own (kept_at cs k)) is.0.3 ∙ shifted-own i d.out c.args.len c.requires.kept.1 k lo (omega (arith, hi, long)),
      omega (arith, lies, long),
    )

pub returns-clause-out : goal.returns-clause-out
returns-clause-out g c k =
    let (is, gone) = c.take_out-part.ensures in let w = c.write_bytes.ensures in let lies = c.requires.lies in let d = c.args.bytes.now in
    let rest = c.take_out-part.new.self in
    let long : length c.slice.result.now ≡ c.args.len =
    ap length c.slice.ensures ∙ length-part c.args.len (c.args.from - rest.skip) rest.bytes (omega (arith, lies, gone.0.1, ap length gone.0.2)) in
    let i : c.write_bytes.new.bytes.skip - rest.skip ≡ c.args.to - d.skip = omega (arith, w.0.1, is.0.1, gone.0.1) in
    let n : length c.write_bytes.new.bytes.bytes ≡ c.args.len = ap length w.0.2 ∙ long in
    ap (λ cs. kept_at cs k) c.put_back.ensures.1.1 ∙ (λ j. kept_at (came_back (i j) (n j) (gone.1 j)) k) ∙ back-over out d.out (c.args.to - d.skip) c.args.len k
