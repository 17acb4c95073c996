use Rattle.std.proofs.Common.{rules, ◌≡◌, ◌++◌, Some, nat_eq, sym, ap, ◌∙◌}
use Rattle.std.specs.Map.{lookup}
use Rattle.std.specs.Option.{option_and_then, option_map}
use Rattle.rlsf_example_libraries.proofs.strings.Strings.joined.Goals as goal

pub returns : goal.returns
returns c = record {
  bytes =
      let left = c.in_ok-left.left.now in
      let right = c.in_ok-right.right.now in
      let both : c.extend_from_slice.new.self.items ≡ left ++ right = c.in_ok-extend_from_slice.ensures.items ∙ ap (λ l. l ++ right) c.in_ok-joined.ensures.items in
      ap (option_and_then (λ l. option_map (λ r. l ++ r) (lookup (nat_eq c.args.right) c.args.self.now.strings))) c.in_ok-left.ensures.bytes
      ∙ ap (option_map (λ r. left ++ r)) c.in_ok-right.ensures.bytes
      ∙ ap Some (sym both);
  unknown = search rules;
  room = search rules;
}
