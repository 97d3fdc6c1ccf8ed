-- What a rule is: where it looks, and what it asks of each part that stands there.
use Rattle.std.specs.Prelude.{ℕ, ℤ, List, Bool}
use Rattle.oci_grammars.specs.declared.grammar.Grammar.{Grammar}

-- how strongly a specification asks (RFC 2119)
pub data Level : Type 0 where
  -- MUST, REQUIRED
  must : Level
  -- a format, a range or a list of values, without such a word
  stated : Level
  -- SHOULD, RECOMMENDED, DEPRECATED
  should : Level
  -- no sentence of the specification: the system refuses it
  host : Level

pub data Platform : Type 0 where
  linux : Platform
  windows : Platform
  solaris : Platform
  vm : Platform
  zos : Platform
  freebsd : Platform

-- ---- conditions

-- from the part that has been come to, or from the whole document
pub data Origin : Type 0 where
  the_part : Origin
  the_document : Origin

-- what may be so of a value
pub data Check : Type 0 where
  is_there : Check
  is_text : List (List ℕ) → Check
  is_truth : Bool → Check
  is_within : ℤ → ℤ → Check
  -- an array with one of these texts
  has_text : List (List ℕ) → Check
  -- an array with an item that has one of the texts under the name, each of these members, and none of those; an empty text is none
  has_item : List ℕ → List (List ℕ) → List (List ℕ) → List (List ℕ) → Check

-- the check of the value to which these names lead is so, or is not
pub data Condition : Type 0 where
  asks : Origin → List (List ℕ) → Bool → Check → Condition

-- ---- places

-- where the parts stand, from the whole document on
pub data Place : Type 0 where
  here : Place
  -- the member of this name, unless it is null
  under : List ℕ → Place → Place
  each_item : Place → Place
  each_member : Place → Place
  -- the name of each member, as a text
  each_name : Place → Place
  -- the value itself, if this is so
  if_so : Condition → Place → Place

-- ---- tests

-- by what items are told apart
pub data Key : Type 0 where
  -- by themselves
  itself : Key
  -- by what stands where each of these ways leads
  members : List (List (List ℕ)) → Key
  -- by what stands before the first `=` of a text
  entry_name : Key

-- what is asked of a part
pub data Test : Type 0 where
  -- a text is of this grammar
  text : Grammar → Test
  -- the licences of an expression are in the first list, its exceptions in the second
  spdx_identifiers : List ℕ → List ℕ → Test
  one_of : List (List ℕ) → Test
  none_of : List (List ℕ) → Test
  begins : List ℕ → Test
  -- a text has a match of this regular expression
  matches : List ℕ → Test
  -- a text that begins so is one of these
  reserved : List ℕ → List (List ℕ) → Test
  within : ℤ → ℤ → Test
  truth : Bool → Test
  there : List ℕ → Test
  absent : List ℕ → Test
  -- the member of this name is not null
  not_null : List ℕ → Test
  -- the member of this name is a boolean
  boolean_member : List ℕ → Test
  -- one of these members is there
  either : List (List ℕ) → Test
  not_empty : Test
  length_at_most : ℕ → Test
  -- the first member is no larger than the second
  at_most : List ℕ → List ℕ → Test
  -- the second member is a version of no lower precedence than the first
  versions_in_order : List ℕ → List ℕ → Test
  -- the two members together are no larger than this
  sum_at_most : List ℕ → List ℕ → ℕ → Test
  -- the items of the first list, without those that have `true` under the name, are as many as those of the second
  as_many : List (List ℕ) → List ℕ → List (List ℕ) → Test
  -- one of these texts is an item
  lists : List (List ℕ) → Test
  -- an item has this text (second) under this name (first)
  lists_item : List ℕ → List ℕ → Test
  -- no item's path under this name is inside another's
  apart : List ℕ → Test
  -- no two items have the same key
  distinct : Key → Test
  -- each text of the first list is in the second
  among : List ℕ → List ℕ → Test

pub record Rule : Type 0 where
  pub name : List ℕ
  pub level : Level
  pub section : List ℕ
  pub platforms : List Platform
  pub place : Place
  pub test : Test

-- the rule, asked at a place farther in
abbrev pub beneath : (Place → Place) → Rule → Rule
beneath front r = record {
  name = r.name;
  level = r.level;
  section = r.section;
  platforms = r.platforms;
  place = front r.place;
  test = r.test;
}
