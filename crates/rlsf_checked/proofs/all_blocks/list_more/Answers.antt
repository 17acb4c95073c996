use Rattle.std.proofs.Common.{◌≡◌, ◌+◌, ◌-◌, ◌*◌, [], ◌++◌, drop, take, length, arith, sym, ◌∙◌, ap, subst}
use Rattle.std.proofs.lemmas.List.{append-nil}
use Rattle.std.proofs.lemmas.List.{length-drop, length-take-le, take_all}
use Rattle.std.proofs.Math.ListN.{drop_of_length-le}
use Rattle.rlsf_blocks.specs.Listing.{IsListingOf, all_from}
use Rattle.rlsf_checked.proofs.Joined.{all_from-append, joined_listing}
use Rattle.rlsf_checked.proofs.all_blocks.list_more.Goals as goal

pub returns-clause-listing : goal.returns-clause-listing
returns-clause-listing c = λ bs was is.
    let mid = c.args.into.now in
    let n = c.args.count in
    let from = c.args.from in
    let new = c.list.new.into in
    let left = length mid - 3 * n in
    let behind = subst (λ l. IsListingOf (all_from from c.args.blocks) l c.list.result new)
    (take_all left (drop (3 * n) mid) (omega (arith, length-drop (3 * n) mid))) c.list.ensures in
    let none : drop left (drop (3 * n) mid) ≡ [] = drop_of_length-le (drop (3 * n) mid) (omega (arith, length-drop (3 * n) mid)) in
    let now : take (3 * n) mid ++ (new ++ drop left (drop (3 * n) mid)) ≡ take (3 * n) mid ++ new =
    ap (λ l. take (3 * n) mid ++ l) (ap (λ d. new ++ d) none ∙ append-nil new) in
    subst (λ l. IsListingOf l was (n + c.list.result) (take (3 * n) mid ++ (new ++ drop left (drop (3 * n) mid)))) (sym (all_from-append from bs c.args.blocks))
    (joined_listing (all_from from bs) (all_from from c.args.blocks) was mid new (take (3 * n) mid ++ (new ++ drop left (drop (3 * n) mid))) n c.list.result is behind now
    (length-take-le (3 * n) mid c.requires) (length-drop (3 * n) mid))
