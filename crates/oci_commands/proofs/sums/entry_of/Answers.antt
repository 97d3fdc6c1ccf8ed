use Rattle.std.proofs.Common.{None, Some, lit<}
use Rattle.std.proofs.lemmas.Str.Pattern.{strip_prefix_char}
use Rattle.oci_commands.proofs.Entries.{is_entry, one_entry, no_split, no_strip}
use Rattle.oci_commands.proofs.sums.entry_of.Goals as goal

pub returns-in_err-text-clause-none : goal.returns-in_err-text-clause-none
returns-in_err-text-clause-none c = λ e. no_split c.args.line.now c.in_err-text.ensures.cases

pub returns-in_err-name-clause-none : goal.returns-in_err-name-clause-none
returns-in_err-name-clause-none c = λ e. no_strip c.args.line.now c.in_ok-text.text c.in_ok-text.rest c.in_ok-text.ensures.cases
    (strip_prefix_char 32 c.in_ok-text.rest.now None c.in_err-name.ensures.cases (lit< tt))

pub returns-clause-some : goal.returns-clause-some
returns-clause-some c = is_entry c.args.line.now c.in_ok-name.name.now c.in_ok-text.text c.in_ok-text.rest c.in_ok-text.ensures.cases
    (strip_prefix_char 32 c.in_ok-text.rest.now (Some c.in_ok-name.name) c.in_ok-name.ensures.cases (lit< tt))

pub returns-clause-one : goal.returns-clause-one
returns-clause-one c = one_entry c.args.line.now c.in_ok-name.name.now c.in_ok-text.text c.in_ok-text.rest c.in_ok-text.ensures.cases
    (strip_prefix_char 32 c.in_ok-text.rest.now (Some c.in_ok-name.name) c.in_ok-name.ensures.cases (lit< tt))
