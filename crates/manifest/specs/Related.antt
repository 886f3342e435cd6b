-- What demand 3's relation holds of: rules that follow from its definition, and an example. Assumes nothing.
use Rattle.std.specs.Prelude.{◌≡◌, refl, false}
use Rattle.text.specs.Reading.{Text, pick}
use Rattle.grammar.specs.Tree.{Tree, str, num, arr, obj, no_trees, one_tree, Members, no_members, one_member, same}
use Rattle.manifest.specs.Names.{bytes}
use Rattle.manifest.specs.Kinds.{Fields}
use Rattle.manifest.specs.Same.{known, kind_of, fields_of, item_of, itself, objects, arrays, SameMembers, no_more, keep, extra, swap, back_members, after_members, no_items, item, SameDocument, document}

-- the same members are the same
pub same_members : (fs : Fields) (ms : Members) → SameMembers fs ms ms
same_members fs no_members = no_more
same_members fs (one_member n t ms) = keep itself (same_members fs ms)

-- inside a member with an unknown name anything goes
pub ignored : (fs : Fields) (n : Text) (t u : Tree) (ms : Members) → known n fs ≡ false → SameMembers fs (one_member n t ms) (one_member n u ms)
ignored fs n t u ms h = after_members (extra h (same_members fs ms)) (back_members (extra h (same_members fs ms)))

-- the members xs and then ys
abbrev pub ◌⊕◌ : Members → Members → Members
◌⊕◌ no_members ys = ys
◌⊕◌ (one_member n t xs) ys = one_member n t (xs ⊕ ys)

infixr 60 ◌⊕◌
-- the first member may go anywhere: with `keep`, every order is reached
pub moved : (fs : Fields) (n : Text) (t : Tree) (xs ys : Members) → SameMembers fs (one_member n t (xs ⊕ ys)) (xs ⊕ one_member n t ys)
moved fs n t no_members ys = same_members fs (one_member n t ys)
moved fs n t (one_member m u xs) ys = after_members swap (keep itself (moved fs n t xs ys))

-- a change further back
pub behind : (fs : Fields) (xs ys zs : Members) → SameMembers fs ys zs → SameMembers fs (xs ⊕ ys) (xs ⊕ zs)
behind fs no_members ys zs s = s
behind fs (one_member n t xs) ys zs s = keep itself (behind fs xs ys zs s)

-- {"version": 1, "files": [{"path": "p"}]} and {"files": [{"note": 1, "path": "p"}], "x": {}, "version": 1}
abbrev path_p : Members
path_p = one_member (bytes "path") (str (bytes "p")) no_members

abbrev a_one : Tree
a_one = num (bytes "1")

related : SameDocument
    (obj (one_member (bytes "perfetto_manifest") (obj (one_member (bytes "version") a_one (one_member (bytes "files") (arr (one_tree (obj path_p) no_trees)) no_members))) no_members))
    (obj (one_member (bytes "perfetto_manifest") (obj (one_member (bytes "files") (arr (one_tree (obj (one_member (bytes "note") a_one path_p)) no_trees))
    (one_member (bytes "x") (obj no_members) (one_member (bytes "version") a_one no_members)))) no_members))
unfolding known kind_of fields_of item_of same pick
related = document (objects (after_members swap
    (keep (arrays (item (objects (back_members (extra refl (same_members _ path_p)))) no_items))
    (back_members (extra refl (same_members _ (one_member (bytes "version") a_one no_members)))))))
