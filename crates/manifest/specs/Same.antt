-- Demand 3's relation: two documents that are the same but for members whose names are unknown to the object that they stand in, anywhere
-- below the outermost object, and but for the order of members. Assumes nothing.
use Rattle.std.specs.Prelude.{◌≡◌, Bool, true, false}
use Rattle.text.specs.Reading.{Text, pick}
use Rattle.grammar.specs.Tree.{Tree, arr, obj, Trees, no_trees, one_tree, Members, no_members, one_member, same}
use Rattle.manifest.specs.Kinds.{Kind, text, integer, free, array, object, Fields, end, field, manifest}

-- whether a name is known to an object with these fields
unfoldable pub known : Text → Fields → Bool
known n end = false
known n (field m r k fs) = pick (same n m) true (known n fs)

-- what the value of a member with this name has to be; `free` if the name is unknown
unfoldable pub kind_of : Text → Fields → Kind
kind_of n end = free
kind_of n (field m r k fs) = pick (same n m) k (kind_of n fs)

-- the fields of an object that stands where a value of kind k has to be: in another's place it has no known names
unfoldable pub fields_of : Kind → Fields
fields_of text = end
fields_of integer = end
fields_of free = end
fields_of (array k) = end
fields_of (object fs) = fs

-- what the items have to be of an array that stands there
unfoldable pub item_of : Kind → Kind
item_of text = free
item_of integer = free
item_of free = free
item_of (array k) = k
item_of (object fs) = free

mutual
  -- `Same k t u`: where a value of kind k has to stand, t and u are the same
  pub data Same : Kind → Tree → Tree → Type 0 where
    itself : {k : Kind} {t : Tree} → Same k t t
    back : {k : Kind} {t u : Tree} → Same k t u → Same k u t
    after : {k : Kind} {t u v : Tree} → Same k t u → Same k u v → Same k t v
    objects : {k : Kind} {ms ns : Members} → SameMembers (fields_of k) ms ns → Same k (obj ms) (obj ns)
    arrays : {k : Kind} {ts us : Trees} → SameItems (item_of k) ts us → Same k (arr ts) (arr us)

  -- the members of an object that knows the fields fs
  pub data SameMembers : Fields → Members → Members → Type 0 where
    no_more : {fs : Fields} → SameMembers fs no_members no_members
    -- one name, the same value
    keep : {fs : Fields} {n : Text} {t u : Tree} {ms ns : Members} → Same (kind_of n fs) t u → SameMembers fs ms ns → SameMembers fs (one_member n t ms) (one_member n u ns)
    -- a name that is unknown here, with any value
    extra : {fs : Fields} {n : Text} {t : Tree} {ms ns : Members} → known n fs ≡ false → SameMembers fs ms ns → SameMembers fs (one_member n t ms) ns
    -- two neighbours change places
    swap : {fs : Fields} {n m : Text} {t u : Tree} {ms : Members} → SameMembers fs (one_member n t (one_member m u ms)) (one_member m u (one_member n t ms))
    back_members : {fs : Fields} {ms ns : Members} → SameMembers fs ms ns → SameMembers fs ns ms
    after_members : {fs : Fields} {ms ns os : Members} → SameMembers fs ms ns → SameMembers fs ns os → SameMembers fs ms os

  -- the items of an array: each the same, in the same order
  pub data SameItems : Kind → Trees → Trees → Type 0 where
    no_items : {k : Kind} → SameItems k no_trees no_trees
    item : {k : Kind} {t u : Tree} {ts us : Trees} → Same k t u → SameItems k ts us → SameItems k (one_tree t ts) (one_tree u us)

-- two documents: the first member of the outermost object has the same value, and all else there is as it is
pub data SameDocument : Tree → Tree → Type 0 where
  document : {n : Text} {t u : Tree} {ms : Members} → Same (object manifest) t u → SameDocument (obj (one_member n t ms)) (obj (one_member n u ms))
