use Rattle.std.proofs.Common.{rules, ◌≡◌, length, ap, ◌∙◌}
use Rattle.std.proofs.lemmas.Result.{IfOk-weaker}
use Rattle.rlsf_example_libraries.proofs.Entries.{AllByRecursion-lookup}
use Rattle.rlsf_example_libraries.proofs.objects.Objects.get.Goals as goal

pub returns : goal.returns
returns c = record {
  bytes = search rules;
  len =
      let size = c.self.inside.layout.size in
      IfOk-weaker c.get.result _ _ (λ bytes there. AllByRecursion-lookup (λ x. length x ≡ size) _ _ bytes.now c.self.invariant.sized there
      ∙ ap (λ p. p.size) c.self.view_is) c.get.ensures.known;
  unknown = search rules;
}
