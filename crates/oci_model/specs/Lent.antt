-- How the logic names the types of members that are lent as `&mut`.
use Rattle.std.specs.Borrow.{RattleType}
use Rattle.std.specs.contracts.alloc.Global as global
use Rattle.std.specs.contracts.vec.Vec as vec
use Rattle.std.specs.contracts.option.Option as optional
use Rattle.std.specs.contracts.string.String as string
use Rattle.std.specs.contracts.collections.BTreeMap as tree
use Rattle.std.specs.contracts.impls.GlobalAllocator.TheImpl.{ghosts}
use Rattle.std.specs.contracts.impls.StringOrd.TheImpl as ord
use Rattle.std.specs.contracts.impls.StringPartialEq.TheImpl as eq
use Rattle.std.specs.contracts.impls.StringPartialOrd.TheImpl as partial_ord

abbrev pub text_row : RattleType
text_row = string.the_row global.the_row ghosts

abbrev pub option_row : RattleType → RattleType
option_row t = optional.the_row t

abbrev pub list_row : RattleType → RattleType
list_row t = vec.the_row t global.the_row ghosts

-- a map from texts
abbrev pub map_row : RattleType → RattleType
map_row t =
    tree.the_row text_row t global.the_row (ord.ghosts global.the_row ghosts ord.no_dict ord.no_dict)
    (eq.ghosts global.the_row ghosts eq.no_dict eq.no_dict) (partial_ord.ghosts global.the_row ghosts partial_ord.no_dict partial_ord.no_dict) ghosts
