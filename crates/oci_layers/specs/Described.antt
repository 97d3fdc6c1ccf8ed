-- How the rules of layers are told: by a name that stays, a level, and the section that they are from.
use Rattle.std.specs.Prelude.{ℕ, List, codes}
use Rattle.oci_rules.specs.Rules.{Level, must, stated, should, host}
use Rattle.oci_rules.specs.Tables.{level_of}
use Rattle.oci_layers.specs.declared.rule.Description.{Description as Given}
use Rattle.oci_layers.specs.declared.rule.LayerRule.{LayerRule}
use Rattle.oci_layers.specs.declared.rule.LayerRule.TheVariants.{Kind, Sparse, PathOnce, PathUnderLink, PathInside, LinkInside, HardLinkInside, HardLinkKind, WhiteoutEmpty, WhiteoutName, WhiteoutReserved, WhiteoutFirst, WhiteoutSibling, Opaque}

pub record Description : Type 0 where
  pub name : List ℕ
  pub level : Level
  pub section : List ℕ

abbrev pub description_of : Given → Description
description_of d = record { name = d.name.now; level = level_of d.level; section = d.section.now }

abbrev pub named : List ℕ → Level → List ℕ → Description
named name level section = record { name = name; level = level; section = section }

abbrev pub described : LayerRule → Description
described Kind = named (codes "layer-kind") stated (codes "image layer.md#file-types")
described Sparse = named (codes "layer-sparse") should (codes "image layer.md#file-attributes")
described PathOnce = named (codes "layer-path-once") must (codes "image layer.md#distributable-format")
described PathUnderLink = named (codes "layer-path-under-link") host (codes "image layer.md#change-types")
described PathInside = named (codes "layer-path-inside") host (codes "image layer.md#change-types")
described LinkInside = named (codes "layer-link-inside") host (codes "image layer.md#hardlinks")
described HardLinkInside = named (codes "layer-hard-link-inside") host (codes "image layer.md#hardlinks")
described HardLinkKind = named (codes "layer-hard-link-kind") stated (codes "image layer.md#hardlinks")
described WhiteoutEmpty = named (codes "layer-whiteout-empty") stated (codes "image layer.md#whiteouts")
described WhiteoutName = named (codes "layer-whiteout-name") stated (codes "image layer.md#whiteouts")
described WhiteoutReserved = named (codes "layer-whiteout-reserved") host (codes "image layer.md#whiteouts")
described WhiteoutFirst = named (codes "layer-whiteout-first") should (codes "image layer.md#whiteouts")
described WhiteoutSibling = named (codes "layer-whiteout-sibling") host (codes "image layer.md#whiteouts")
described Opaque = named (codes "layer-opaque") should (codes "image layer.md#opaque-whiteout")
