-- What a store keeps that keeps only what verifies.
use Rattle.oci_content.specs.Content.{IsDigestOf}
use Rattle.oci_layout.specs.declared.shelf.Content.{Content}

-- the content has the digest under which it is kept
abbrev pub IsRight : Content → Type 0
IsRight content = IsDigestOf content.digest content.bytes.items
