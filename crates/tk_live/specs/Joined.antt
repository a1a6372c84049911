-- What is told of ends that differ.
use Rattle.tk_story.specs.declared.ends.join_fault.JoinFault.{JoinFault}
use Rattle.tk_story.specs.declared.ends.join_fault.JoinFault.TheVariants as f
use Rattle.tk_load.specs.declared.status.Status.{Status}
use Rattle.tk_load.specs.declared.status.Status.TheVariants as st

-- what is told of ends that do not join: the first difference of their links, or want of memory
abbrev pub joined_as : JoinFault → Status
joined_as (f.Differs difference) = st.LinkDiffers difference
joined_as f.NoMemory = st.NoMemory
