-- An expression is looked up word by word.
use Rattle.oci_grammars.proofs.LicenseLists.{listed_by}
use Rattle.oci_grammars.proofs.license_lists.has_listed_licenses.Goals as goal

pub returns : goal.returns
returns c =
    listed_by c.args.licenses.now c.args.exceptions.now c.args.text.now c.as_bytes-licenses.result.now c.as_bytes-exceptions.result.now c.as_bytes-bytes.result.now c.is_spdx_expression.result c.are_listed.result
    c.as_bytes-licenses.ensures.value c.as_bytes-exceptions.ensures.value c.as_bytes-bytes.ensures.value c.is_spdx_expression.ensures c.are_listed.ensures
