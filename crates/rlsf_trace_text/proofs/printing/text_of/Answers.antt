use Rattle.std.proofs.Common.{◌≡◌, ℕ, List, [], ◌∷◌, ◌++◌, inl, inr, append_assoc, sym, ◌∙◌}
use Rattle.std.proofs.lemmas.List.{append-nil}
use Rattle.std.proofs.lemmas.Slice.Zip.{Zip-more, either_empty_from_Zip}
use Rattle.std.specs.Prelude.{◌⊎◌}
use Rattle.rlsf_trace_text.specs.declared.op.Op.{Op}
use Rattle.rlsf_trace_text.specs.declared.op.Answer.{Answer}
use Rattle.rlsf_trace_text.specs.Printing.{line_text, text_of}
use Rattle.rlsf_trace_text.proofs.printing.text_of.Goals as goal

-- one more line
one_more : (text line next whole : List ℕ) (op : Op) (answer : Answer) (ops other_ops : List Op) (answers other_answers : List Answer) → ops ≡ op ∷ other_ops
    → answers ≡ answer ∷ other_answers → line ≡ text ++ line_text op answer → next ≡ line ++ 10 ∷ [] → text ++ text_of ops answers ≡ whole
    → next ++ text_of other_ops other_answers ≡ whole
one_more text line next whole op answer ops other_ops answers other_answers first second printed ended so_far =
    let before : text ++ text_of (op ∷ other_ops) (answer ∷ other_answers) ≡ whole = rw (first, second) at so_far in
    rw (ended, printed) (simp append_assoc (simp append_assoc at before))

-- where one of two lists has ended, there are no more lines
is_done : (text whole : List ℕ) (ops : List Op) (answers : List Answer) → (ops ≡ []) ⊎ (answers ≡ []) → text ++ text_of ops answers ≡ whole → text ≡ whole
is_done text whole [] answers ended so_far = sym (append-nil text) ∙ so_far
is_done text whole (op ∷ ops) [] ended so_far = sym (append-nil text) ∙ so_far
is_done text whole (op ∷ ops) (answer ∷ answers) (inl none) so_far = absurd cc
is_done text whole (op ∷ ops) (answer ∷ answers) (inr none) so_far = absurd cc

pub loop-op-preserved : goal.loop-op-preserved
unfolding lib.Utf8.encode
loop-op-preserved c =
    let left = Zip-more c.loop-op.op-iterator c.next.new.self c.next.result (c.in-Some.op, c.in-Some.answer) c.in-Some.is c.next.ensures.steps in
    one_more _ _ _ _ _ _ _ _ _ _ left.0 left.1 c.in_ok-print_line.ensures c.in_ok-push.ensures.bytes c.loop-op.invariant

pub returns : goal.returns
returns c = is_done _ _ _ _ (either_empty_from_Zip c.loop-op.op-iterator c.next.new.self c.next.result c.in-None.is c.next.ensures.steps) c.loop-op.invariant
