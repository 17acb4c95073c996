use Rattle.std.proofs.Common.{◌≡◌, ◌≤◌, ap, sym, subst, ◌∙◌}
use Rattle.rlsf_model.specs.Insert.{aligned_part}
use Rattle.rlsf_model.specs.Uniform.{IsUniform}
use Rattle.rlsf_example_libraries.specs.Capacities.{IsObjectPool}
use Rattle.rlsf_example_libraries.specs.Objects.{capacity_of}
use Rattle.rlsf_example_libraries.proofs.Capacities.{IsObjectPool-new}
use Rattle.rlsf_example_libraries.proofs.objects.Objects.new.Goals as goal

pub invariant_of-result : goal.invariant_of-result
invariant_of-result c =
    let h = c.new.result in
    let layout = c.args.layout in
    let memory = c.new.ensures.memory in
    let made = IsObjectPool-new h layout.size layout.align layout.valid c.new.ensures.align c.new.ensures.empty
    (λ len enough. subst (λ m. IsUniform len (aligned_part m) h.state) (sym memory) (c.new.ensures.uniform len (subst (λ m. 64 ≤ (aligned_part m).len) memory enough))) in
    let same : capacity_of (aligned_part h.memory).len layout.size layout.align ≡ c.capacity_of-capacity.result =
    ap (λ m. capacity_of (aligned_part m).len layout.size layout.align) memory
    ∙ sym (c.capacity_of-capacity.ensures ∙ ap (λ n. capacity_of n layout.size layout.align) c.pool_len.ensures) in
    subst (IsObjectPool h layout.size layout.align) same made
