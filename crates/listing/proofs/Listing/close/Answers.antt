-- The entry of an open jump is changed to one that has its target.
use Rattle.std.proofs.Common.{◌∷◌, ◌++◌, set, subst}
use Rattle.listing.specs.Listings.{Lists}
use Rattle.listing.proofs.Laying.{closed}
use Rattle.listing.proofs.Listing.close.Goals as goal

pub returns-clause-lists : goal.returns-clause-lists
returns-clause-lists c =
    λ m x b y h. closed _ _ c.args.jump c.here-target.result b x m c.patch.ensures.same y h (c.here-target.ensures _ y) (subst (λ e. Lists c.patch.new.self (set (m ++ (x ∷ b)) c.args.jump.at e)) c.entry_of.ensures (c.patch.ensures.lists _ y))
