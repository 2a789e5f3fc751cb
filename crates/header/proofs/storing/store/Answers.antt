use Rattle.std.proofs.Common.{◌∙◌, arith, rules}
use Rattle.header.specs.Header.{header_of}
use Rattle.header.proofs.Parts.{three_parts, same_parts}
use Rattle.header.proofs.storing.store.Goals as goal

pub returns : goal.returns
unfolding header_of
returns c = record {
  told = search rules;
  done = λ _ rs a.
      three_parts 16 16 32 c.args.header.now c.copy_from_slice.new.self c.copy_from_slice-2.new.self _ c.if-header-ne64.false (omega arith) (omega arith)
      ∙ same_parts _ _ _ _ _ _ (c.copy_from_slice.ensures.after ∙ c.screen_numbers.ensures rs a) (c.copy_from_slice-2.ensures.after ∙ c.parser_numbers.ensures) (c.copy_from_slice-3.ensures.after ∙ c.parameter_numbers.ensures);
  kept = λ e. absurd (search rules);
}
