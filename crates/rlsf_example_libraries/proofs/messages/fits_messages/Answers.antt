use Rattle.std.proofs.Common.{◌≡◌, ◌≤◌, ◌-◌, Some, refl, sym, ◌∙◌, subst}
use Rattle.std.proofs.lemmas.Bool.{le-leb, leb-true}
use Rattle.std.proofs.lemmas.Option.{same_Some}
use Rattle.rlsf_model_sizes.specs.Sizes.{pool_size_for_payloads}
use Rattle.rlsf_base.specs.Space.{range_of}
use Rattle.rlsf_model.specs.Insert.{aligned_part}
use Rattle.rlsf_example_libraries.proofs.messages.fits_messages.Goals as goal

pub returns-in-Some : goal.returns-in-Some
returns-in-Some c =
    let (size, align) = c.in-Ok.ensures.layout in
    let layout = c.in-Ok.layout in
    let most = c.saturating_sub-most.result in
    let len = c.in-Some.len in
    let told : pool_size_for_payloads 59 8 (c.args.capacity - 1) c.args.longest 1 ≡ Some len =
    subst (λ n. pool_size_for_payloads 59 8 n c.args.longest 1 ≡ Some len) c.saturating_sub-most.ensures
    (subst (λ n. pool_size_for_payloads 59 8 most n 1 ≡ Some len) size
    (subst (λ n. pool_size_for_payloads 59 8 most layout.size n ≡ Some len) align (sym c.pool_size_for_payloads.ensures ∙ c.in-Some.is))) in (
      (λ short. (c.in-Ok.ensures.succeeds.0 refl, (len, told, subst (λ n. len ≤ n) c.pool_len.ensures (leb-true len c.pool_len.result short)))),
      λ (_, (e, is, fits)). le-leb len c.pool_len.result (subst (λ n. len ≤ n) (sym c.pool_len.ensures)
          (subst (λ n. n ≤ (aligned_part (range_of c.args.memory.now)).len) (same_Some e len (sym is ∙ told)) fits)),
    )
