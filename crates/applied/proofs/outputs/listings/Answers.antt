-- The theorems of proofs/Listing.antt.
use Rattle.applied.proofs.Listing.{listing, steps_applied}
use Rattle.applied.proofs.outputs.listings.Goals as goal

pub returns : goal.returns
returns c = record { listing = listing; steps = steps_applied }
